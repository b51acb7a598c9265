-- What a whole record file tells: its job number and its events, up to its end or its first fault.
use Rattle.std.specs.Prelude.{◌≡◌, ℕ, ◌+◌, ◌^◌, ◌<◌, ◌≤◌, ◌⊎◌, List, [], ◌∷◌, ◌++◌, map, length, Some, None, Ok, Err, Option, Result}
use Rattle.std.specs.List.{flat_map, AllByRecursion}
use Rattle.model.specs.declared.Cell.{Cell}
use Rattle.model.specs.declared.Event.{Event}
use Rattle.record.specs.declared.fault.ByteRefusal.{ByteRefusal}
use Rattle.record.specs.declared.writer.Writer.{Writer}
use Rattle.record.specs.Numbers.{number_form, InRange, NumberRefused}
use Rattle.record.specs.Heading.{heading, HeadingRead, HeadingRefused}
use Rattle.record.specs.Events.{numbers_of, event_form, file_form, Writable, EventRefused}
use Rattle.record.specs.Writes.{laid, WriteRefused}
use Rattle.record.specs.Writers.{SameBuffer}

-- one event after another
abbrev pub events_form : List (Event Cell) → List ℕ
events_form es = flat_map event_form es

-- each number in the file is at most 2^63 - 1
abbrev pub Fits : ℕ → List (Event Cell) → Type 0
Fits job es = (job < 2 ^ 63) × AllByRecursion Writable es

-- bs, which begins at place `from`, holds the events es and then bytes that f refuses
pub record Stopped (from : ℕ) (bs : List ℕ) (es : List (Event Cell)) (f : ByteRefusal) : Type 0 where
  pub rest : List ℕ
  pub cut : bs ≡ events_form es ++ rest
  pub some : 0 < length rest
  pub place : f.place ≡ from + length (events_form es)
  pub why : EventRefused rest f.fault

-- bs, which begins at place `from`, holds the events es to its end, or up to what f refuses
abbrev pub EventsRead : ℕ → List ℕ → List (Event Cell) → Option ByteRefusal → Type 0
EventsRead from bs es None = AllByRecursion Writable es × (bs ≡ events_form es)
EventsRead from bs es (Some f) = AllByRecursion Writable es × Stopped from bs es f

-- no job number is read: the heading is refused at place 0, or the number at place 4
abbrev pub NoJob : List ℕ → ByteRefusal → Type 0
NoJob bs f = ((f.place ≡ 0) × HeadingRefused bs f.fault) ⊎ ((rest : List ℕ) × HeadingRead bs rest × (f.place ≡ 4) × NumberRefused rest f.fault)

-- what the file bs tells: no job number, no event and why; or its job number, its events, and what stopped them if
-- anything did
abbrev pub Listed : List ℕ → Option ℕ → List (Event Cell) → Option ByteRefusal → Type 0
Listed bs None es None = ⊥
Listed bs None es (Some f) = (es ≡ []) × NoJob bs f
Listed bs (Some job) es f = (job < 2 ^ 63) × ((rest : List ℕ) × (bs ≡ heading ++ (number_form job ++ rest)) × EventsRead (4 + length (number_form job)) rest es f)

-- no other listing fits the file
abbrev pub OnlyListing : List ℕ → Option ℕ → List (Event Cell) → Option ByteRefusal → Type 0
OnlyListing bs job es f = (job' : Option ℕ) (es' : List (Event Cell)) (f' : Option ByteRefusal) → Listed bs job' es' f' → (job ≡ job') × (es ≡ es') × (f ≡ f')

-- written, then read: a file that is the form of a job and of events is listed as these, to its end
abbrev pub ReadsBack : List ℕ → Option ℕ → List (Event Cell) → Option ByteRefusal → Type 0
ReadsBack bs job es f = (n : ℕ) (ds : List (Event Cell)) → Fits n ds → bs ≡ file_form n ds → (job ≡ Some n) × (es ≡ ds) × (f ≡ None)

-- read, then written: if a file is listed to its end, its bytes are the form of what was listed
abbrev pub WritesBack : List ℕ → Option ℕ → List (Event Cell) → Option ByteRefusal → Type 0
WritesBack bs job es f = (n : ℕ) → job ≡ Some n → f ≡ None → Fits n es × (bs ≡ file_form n es)

-- a part of a file that is written whole or not at all: the numbers in it, and its form
abbrev pub Part : Type 0
Part = List ℕ × List ℕ

-- the heading holds no number
abbrev pub heading_part : Part
heading_part = ([], heading)

abbrev pub job_part : ℕ → Part
job_part job = (job ∷ [], number_form job)

abbrev pub event_part : Event Cell → Part
event_part e = (numbers_of e, event_form e)

-- each event is a part
abbrev pub event_parts : List (Event Cell) → List Part
event_parts es = map event_part es

-- the heading, the job number, and each event
abbrev pub file_parts : ℕ → List (Event Cell) → List Part
file_parts job es = heading_part ∷ job_part job ∷ event_parts es

-- one part after another
abbrev pub parts_form : List Part → List ℕ
parts_form ps = flat_map (λ p. p.1) ps

-- the first part that is refused, after those that are written
pub record WriteStopped (parts : List Part) (buf : List ℕ) (from : ℕ) (r : ByteRefusal) (after : List ℕ) : Type 0 where
  pub done : List Part
  pub part : Part
  pub more : List Part
  pub split : parts ≡ done ++ (part ∷ more)
  pub fit : AllByRecursion (λ p. InRange p.0) done
  pub place : r.place ≡ from + length (parts_form done)
  pub room : from + length (parts_form done) ≤ length buf
  pub over : after ≡ laid buf from (parts_form done)
  pub why : WriteRefused part.0 part.1 buf r.place r.fault

-- parts written one after another: all of them, every other byte as before; or those before the first that is refused
abbrev pub PartsWritten : List Part → List ℕ → ℕ → Result ℕ ByteRefusal → List ℕ → Type 0
PartsWritten ps buf from (Ok end) after = AllByRecursion (λ p. InRange p.0) ps × (from + length (parts_form ps) ≤ length buf) × (end ≡ from + length (parts_form ps)) × (after ≡ laid buf from (parts_form ps))
PartsWritten ps buf from (Err r) after = WriteStopped ps buf from r after

-- the same of the parts that are written by the writer w, which is v after it
abbrev pub PartsCall : List Part → Writer → Result (Unit {0}) ByteRefusal → Writer → Type 0
PartsCall ps w (Ok u) v = SameBuffer w v × PartsWritten ps w.buf.now w.place (Ok v.place) v.buf.now
PartsCall ps w (Err r) v = SameBuffer w v × PartsWritten ps w.buf.now w.place (Err r) v.buf.now

-- a file written from the start of a buffer: all of it, every other byte as before; or a number has no form, or there is
-- no room
abbrev pub FileWritten : ℕ → List (Event Cell) → List ℕ → Result ℕ ByteRefusal → List ℕ → Type 0
FileWritten job es buf (Ok end) after = Fits job es × (end ≤ length buf) × (end ≡ length (file_form job es)) × (after ≡ laid buf 0 (file_form job es))
FileWritten job es buf (Err r) after = Fits job es → length buf < length (file_form job es)
