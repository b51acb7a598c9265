-- The form of an event and of a whole file, and which bytes begin with an event.
use Rattle.std.specs.Prelude.{◌≡◌, ℕ, ◌<◌, ◌≤◌, cond, ◌⊎◌, List, [], ◌∷◌, ◌++◌, ◌==◌, nat_lt}
use Rattle.std.specs.List.{flat_map}
use Rattle.model.specs.declared.Cell.{Cell}
use Rattle.model.specs.declared.Event.{Event}
use Rattle.model.specs.declared.Event.TheVariants.{Spawn, End, Open, Close, Read, Write}
use Rattle.record.specs.declared.fault.ByteFault.{ByteFault}
use Rattle.record.specs.declared.fault.ByteFault.TheVariants.{Short, UnknownKind}
use Rattle.record.specs.declared.kind.Kind.TheVariants as kinds
use Rattle.record.specs.Kinds.{byte_of}
use Rattle.record.specs.Numbers.{number_form, numbers_form, InRange, NumbersRefused}
use Rattle.record.specs.Heading.{heading}

-- the byte of an event's kind
abbrev pub kind_of : Event Cell → ℕ
kind_of (Spawn t u) = byte_of kinds.Spawn
kind_of (End t) = byte_of kinds.End
kind_of (Open t) = byte_of kinds.Open
kind_of (Close t) = byte_of kinds.Close
kind_of (Read t c) = byte_of kinds.Read
kind_of (Write t c) = byte_of kinds.Write

-- the numbers that follow it: the task, then the child, or the cell's mailbox and block
abbrev pub numbers_of : Event Cell → List ℕ
numbers_of (Spawn t u) = t ∷ u ∷ []
numbers_of (End t) = t ∷ []
numbers_of (Open t) = t ∷ []
numbers_of (Close t) = t ∷ []
numbers_of (Read t c) = t ∷ c.mailbox ∷ c.block ∷ []
numbers_of (Write t c) = t ∷ c.mailbox ∷ c.block ∷ []

-- how many numbers follow a kind's byte
abbrev pub count_of : ℕ → ℕ
count_of k = cond (k == 1) 2 (cond (nat_lt k 5) 1 3)

-- each number in the event is at most 2^63 - 1
abbrev pub Writable : Event Cell → Type 0
Writable e = InRange (numbers_of e)

-- the kind byte and the forms of the numbers
abbrev pub event_form : Event Cell → List ℕ
event_form e = kind_of e ∷ numbers_form (numbers_of e)

-- a file: the heading, the job number and the events
abbrev pub file_form : ℕ → List (Event Cell) → List ℕ
file_form job es = heading ++ (number_form job ++ flat_map event_form es)

-- bs begins with the form of e, and rest follows it
abbrev pub EventRead : List ℕ → Event Cell → List ℕ → Type 0
EventRead bs e rest = Writable e × (bs ≡ event_form e ++ rest)

-- why no event is read: nothing is there, its kind is unknown, or one of its numbers is refused
pub data EventRefused (bs : List ℕ) : ByteFault → Type 0 where
  nothing : bs ≡ [] → EventRefused bs Short
  unknown : (k : ℕ) (more : List ℕ) → bs ≡ k ∷ more → (k < 1) ⊎ (6 < k) → EventRefused bs UnknownKind
  stopped : (k : ℕ) (more : List ℕ) (f : ByteFault) → bs ≡ k ∷ more → 1 ≤ k → k ≤ 6 → NumbersRefused (count_of k) more f → EventRefused bs f
