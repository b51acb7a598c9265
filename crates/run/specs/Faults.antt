-- The number and the layer of each fault of a run.
use Rattle.std.specs.Prelude.{ℕ}
use Rattle.model.specs.declared.Layer.{Layer}
use Rattle.model.specs.declared.Layer.TheVariants as layer
use Rattle.order.specs.Faults as order
use Rattle.cells.specs.Faults as cells
use Rattle.run.specs.declared.fault.RunFault.{RunFault}
use Rattle.run.specs.declared.fault.RunFault.TheVariants.{TooLarge, UnknownTask, NameTaken, NoName, Full, Sealed, OtherJob, Order, Cells}

-- the keeper's and the store's faults keep their own
abbrev pub number_of : RunFault → ℕ
number_of TooLarge = 6
number_of UnknownTask = 7
number_of NameTaken = 8
number_of NoName = 9
number_of Full = 10
number_of Sealed = 11
number_of OtherJob = 12
number_of (Order f) = order.number_of f
number_of (Cells f) = cells.number_of f

abbrev pub layer_of : RunFault → Layer
layer_of (Order f) = order.layer_of f
layer_of (Cells f) = cells.layer_of f
layer_of f = layer.Run
