-- The lines that a file is listed by.
use Rattle.std.specs.Prelude.{◌≡◌, ℕ, suc, ◌<◌, ◌≤◌, List, [], ◌∷◌, ◌++◌, length, Some, None, codes, decimal, Option}
use Rattle.std.specs.Fmt.{option_append}
use Rattle.model.specs.declared.Cell.{Cell}
use Rattle.model.specs.declared.Event.{Event}
use Rattle.model.specs.Shown.{cell_text, event_shown}
use Rattle.record.specs.declared.fault.ByteFault.TheVariants.{NoRoom}
use Rattle.record.specs.declared.fault.ByteRefusal.{ByteRefusal}
use Rattle.record.specs.Faults.{refusal_text}
use Rattle.listing.specs.Files as files
use Rattle.listing.specs.declared.line.Again.{Again}
use Rattle.listing.specs.declared.line.Again.TheVariants.{Equal, Different}
use Rattle.listing.specs.declared.line.Line.{Line}
use Rattle.listing.specs.declared.line.Line.TheVariants.{Job, Entry, Summary, Refused}

-- what writing again gave, in a word
abbrev pub again_text : Again → List ℕ
again_text Equal = codes "equal"
again_text Different = codes "different"

-- the text of a line: `job 7`, `1 write 1 1/5`, `3 events, 16 bytes, written again: equal`, or a refusal
abbrev pub line_shown : Line → Option (List ℕ)
line_shown (Job job) = Some (codes "job " ++ decimal job)
line_shown (Entry place event) = option_append (Some (decimal place)) (option_append (Some (codes " ")) (event_shown (λ c. Some (cell_text c)) event))
line_shown (Summary events bytes again) = Some (decimal events ++ (codes " events, " ++ (decimal bytes ++ (codes " bytes, written again: " ++ again_text again))))
line_shown (Refused r) = Some (refusal_text r)

-- a line for each event, with its place among the events, the first at n
abbrev pub event_lines : ℕ → List (Event Cell) → List Line
event_lines n [] = []
event_lines n (e ∷ es) = Entry n e ∷ event_lines (suc n) es

-- how the listing of a file of `size` bytes ends: all of it is listed and written again as it was, or it was refused
abbrev pub last_line : ℕ → List (Event Cell) → Option ByteRefusal → Line
last_line size es None = Summary (length es) size Equal
last_line size es (Some f) = Refused f

-- the job, the events, and the end; where there is no job, the end alone
abbrev pub lines_of : ℕ → Option ℕ → List (Event Cell) → Option ByteRefusal → List Line
lines_of size None es f = last_line size es f ∷ []
lines_of size (Some job) es f = Job job ∷ (event_lines 0 es ++ (last_line size es f ∷ []))

-- what is told of the bytes bs: those of a file that is too long are not read at all
pub record Told (bs : List ℕ) (lines : List Line) : Type 0 where
  pub long : 65536 < length bs → lines ≡ Refused (record { fault = NoRoom; place = 65536 }) ∷ []
  pub read : length bs ≤ 65536 → (job : Option ℕ) × (es : List (Event Cell)) × (f : Option ByteRefusal) × files.Listed bs job es f × (lines ≡ lines_of (length bs) job es f)
