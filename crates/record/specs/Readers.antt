-- How a reader goes on, and what each of its calls answers.
use Rattle.std.specs.Prelude.{◌≡◌, ℕ, ◌+◌, ◌^◌, ◌<◌, List, [], ◌++◌, length, Some, None, Ok, Err, Option, Result}
use Rattle.model.specs.declared.Cell.{Cell}
use Rattle.model.specs.declared.Event.{Event}
use Rattle.std.specs.Borrow.{Bor}
use Rattle.record.specs.declared.fault.ByteFault.{ByteFault}
use Rattle.record.specs.declared.fault.ByteRefusal.{ByteRefusal}
use Rattle.record.specs.declared.reader.Reader.{Reader}
use Rattle.record.specs.Numbers.{number_form, NumberRefused}
use Rattle.record.specs.Heading.{heading, HeadingRefused}
use Rattle.record.specs.Events.{event_form, Writable, EventRefused}

-- the bytes that a reader stands before
abbrev pub left_of : Reader → List ℕ
left_of r = r.rest.now

-- r stands before the bytes bs, and s after them
abbrev pub Passed : Reader → List ℕ → Reader → Type 0
Passed r bs s = (left_of r ≡ bs ++ left_of s) × (s.place ≡ r.place + length bs)

-- the refusal f is placed at the first byte before which r stands, and s is r still
abbrev pub Stayed : Reader → ByteRefusal → Reader → Type 0
Stayed r f s = (s ≡ r) × (f.place ≡ r.place)

-- r went on past what was read of the bytes before it, with the value answered and the rest behind it; or it stayed, and
-- the fault is placed there
abbrev pub Went : {V : Type 0} → Reader → Result (V × Bor (List ℕ)) ByteFault → Result V ByteRefusal → Reader → Type 0
Went r (Ok p) (Ok v) s = (v ≡ p.0) × (left_of s ≡ p.1.now) × (s.place + length p.1.now ≡ r.place + length (left_of r))
Went r (Ok p) (Err g) s = ⊥
Went r (Err f) (Ok v) s = ⊥
Went r (Err f) (Err g) s = (g.fault ≡ f) × Stayed r g s

-- a call for the heading on r, what it answers, and the reader after it
abbrev pub HeadingCall : Reader → Result (Unit {0}) ByteRefusal → Reader → Type 0
HeadingCall r (Ok u) s = Passed r heading s
HeadingCall r (Err f) s = Stayed r f s × HeadingRefused (left_of r) f.fault

-- the same of a call for the job number
abbrev pub JobCall : Reader → Result ℕ ByteRefusal → Reader → Type 0
JobCall r (Ok job) s = (job < 2 ^ 63) × Passed r (number_form job) s
JobCall r (Err f) s = Stayed r f s × NumberRefused (left_of r) f.fault

-- the same of a call for the next event: there is none at the end of the file, and only there
abbrev pub EventCall : Reader → Result (Option (Event Cell)) ByteRefusal → Reader → Type 0
EventCall r (Ok None) s = (left_of r ≡ []) × (s ≡ r)
EventCall r (Ok (Some e)) s = Writable e × Passed r (event_form e) s
EventCall r (Err f) s = Stayed r f s × (0 < length (left_of r)) × EventRefused (left_of r) f.fault
