-- The number and the layer of each fault of a store.
use Rattle.std.specs.Prelude.{ℕ}
use Rattle.model.specs.declared.Layer.{Layer}
use Rattle.model.specs.declared.Layer.TheVariants.{Cells}
use Rattle.cells.specs.declared.fault.CellFault.{CellFault}
use Rattle.cells.specs.declared.fault.CellFault.TheVariants.{NoRoom}

abbrev pub number_of : CellFault → ℕ
number_of NoRoom = 18

abbrev pub layer_of : CellFault → Layer
layer_of f = Cells
