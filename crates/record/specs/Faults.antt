-- The number and the layer of each fault of the bytes, and how a refusal is shown.
use Rattle.std.specs.Prelude.{ℕ, List, ◌++◌, codes, decimal}
use Rattle.model.specs.Shown.{layer_text}
use Rattle.model.specs.declared.Layer.{Layer}
use Rattle.model.specs.declared.Layer.TheVariants.{Bytes}
use Rattle.record.specs.declared.fault.ByteFault.{ByteFault}
use Rattle.record.specs.declared.fault.ByteRefusal.{ByteRefusal}
use Rattle.record.specs.declared.fault.ByteFault.TheVariants.{WrongHeading, Short, BadNumber, UnknownKind, NoRoom, TooLarge}

-- the number by which a fault is known
abbrev pub number_of : ByteFault → ℕ
number_of WrongHeading = 1
number_of Short = 2
number_of BadNumber = 3
number_of UnknownKind = 4
number_of NoRoom = 5
number_of TooLarge = 6

-- the writer's 6 too comes from the bytes
abbrev pub layer_of : ByteFault → Layer
layer_of f = Bytes

-- refused 3 layer bytes byte 18
abbrev pub refusal_text : ByteRefusal → List ℕ
refusal_text r = codes "refused " ++ (decimal (number_of r.fault) ++ (codes " layer " ++ (layer_text (layer_of r.fault) ++ (codes " byte " ++ decimal r.place))))
