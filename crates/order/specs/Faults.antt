-- The number and the layer of each fault of an order keeper.
use Rattle.std.specs.Prelude.{ℕ}
use Rattle.model.specs.declared.Layer.{Layer}
use Rattle.model.specs.declared.Layer.TheVariants as layer
use Rattle.order.specs.declared.fault.OrderFault.{OrderFault}
use Rattle.order.specs.declared.fault.OrderFault.TheVariants.{TaskEnded, NoFinishOpen, FinishNotEmpty, FinishOpen, NoStepFree}

abbrev pub number_of : OrderFault → ℕ
number_of TaskEnded = 13
number_of NoFinishOpen = 14
number_of FinishNotEmpty = 15
number_of FinishOpen = 16
number_of NoStepFree = 17

abbrev pub layer_of : OrderFault → Layer
layer_of f = layer.Order
