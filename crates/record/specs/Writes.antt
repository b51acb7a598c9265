-- What writing does to a lent buffer: the whole form at its index, or nothing.
use Rattle.std.specs.Prelude.{◌≡◌, ℕ, ◌+◌, ◌<◌, ◌≤◌, List, ◌++◌, length, take, drop, Ok, Err, Result}
use Rattle.record.specs.declared.fault.ByteFault.{ByteFault}
use Rattle.record.specs.declared.fault.ByteFault.TheVariants.{WrongHeading, Short, BadNumber, UnknownKind, NoRoom, TooLarge}
use Rattle.record.specs.declared.fault.ByteRefusal.{ByteRefusal}
use Rattle.record.specs.Numbers.{InRange}

-- buf with bs laid over it from `at` on, every other byte as it was
abbrev pub laid : List ℕ → ℕ → List ℕ → List ℕ
laid buf at bs = take at buf ++ (bs ++ drop (at + length bs) buf)

-- why the form bs of the numbers ns is not written at `at`: a number is too large, or else there is no room
abbrev pub WriteRefused : List ℕ → List ℕ → List ℕ → ℕ → ByteFault → Type 0
WriteRefused ns bs buf at WrongHeading = ⊥
WriteRefused ns bs buf at Short = ⊥
WriteRefused ns bs buf at BadNumber = ⊥
WriteRefused ns bs buf at UnknownKind = ⊥
WriteRefused ns bs buf at NoRoom = InRange ns × (length buf < at + length bs)
WriteRefused ns bs buf at TooLarge = InRange ns → ⊥

-- bs is written whole and the index after it is answered; or the refusal is placed at the index, and nothing is written
abbrev pub Written : List ℕ → List ℕ → List ℕ → ℕ → Result ℕ ByteRefusal → List ℕ → Type 0
Written ns bs buf at (Ok end) after = InRange ns × (at + length bs ≤ length buf) × (end ≡ at + length bs) × (after ≡ laid buf at bs)
Written ns bs buf at (Err r) after = (r.place ≡ at) × (after ≡ buf) × WriteRefused ns bs buf at r.fault
