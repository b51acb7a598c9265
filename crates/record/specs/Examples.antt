-- Some forms written out, to hold the definitions against.
use Rattle.std.specs.Prelude.{◌≡◌, ◌-◌, ◌^◌, [], ◌∷◌}
use Rattle.model.specs.declared.Cell.{Cell}
use Rattle.model.specs.declared.Event.TheVariants.{Spawn, End, Open, Close, Read, Write}
use Rattle.record.specs.Numbers.{number_form}
use Rattle.record.specs.Events.{event_form, file_form}

-- numbers of one, two, three and nine bytes
abbrev pub NumberExamples : Type 0
NumberExamples = (number_form 0 ≡ 0x00 ∷ [])
    × (number_form 127 ≡ 0x7f ∷ [])
    × (number_form 128 ≡ 0x80 ∷ 0x01 ∷ [])
    × (number_form 300 ≡ 0xac ∷ 0x02 ∷ [])
    × (number_form 16383 ≡ 0xff ∷ 0x7f ∷ [])
    × (number_form 16384 ≡ 0x80 ∷ 0x80 ∷ 0x01 ∷ [])
    × (number_form (2 ^ 63 - 1) ≡ 0xff ∷ 0xff ∷ 0xff ∷ 0xff ∷ 0xff ∷ 0xff ∷ 0xff ∷ 0xff ∷ 0x7f ∷ [])

-- the cell 1/5
abbrev fifth : Cell
fifth = record { mailbox = 1; block = 5 }

-- an event of each kind, and a whole file
abbrev pub EventExamples : Type 0
EventExamples = (event_form (Spawn 0 300) ≡ 0x01 ∷ 0x00 ∷ 0xac ∷ 0x02 ∷ [])
    × (event_form (End 1) ≡ 0x02 ∷ 0x01 ∷ [])
    × (event_form (Open 0) ≡ 0x03 ∷ 0x00 ∷ [])
    × (event_form (Close 0) ≡ 0x04 ∷ 0x00 ∷ [])
    × (event_form (Read 2 fifth) ≡ 0x05 ∷ 0x02 ∷ 0x01 ∷ 0x05 ∷ [])
    × (event_form (Write 2 fifth) ≡ 0x06 ∷ 0x02 ∷ 0x01 ∷ 0x05 ∷ [])
    × (file_form 7 (Spawn 0 1 ∷ Write 1 fifth ∷ Write 0 fifth ∷ []) ≡ 0x41 ∷ 0x46 ∷ 0x54 ∷ 0x31 ∷ 0x07 ∷ 0x01 ∷ 0x00 ∷ 0x01 ∷ 0x06 ∷ 0x01 ∷ 0x01 ∷ 0x05 ∷ 0x06 ∷ 0x00 ∷ 0x01 ∷ 0x05 ∷ [])
