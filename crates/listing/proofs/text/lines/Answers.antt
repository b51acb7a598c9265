use Rattle.std.proofs.Common.{◌≡◌, ℕ, ◌≤◌, List, [], length, Some, None, Option, arith, rules}
use Rattle.model.specs.declared.Cell.{Cell}
use Rattle.model.specs.declared.Event.{Event}
use Rattle.record.specs.declared.fault.ByteRefusal.{ByteRefusal}
use Rattle.listing.specs.declared.line.Line.{Line}
use Rattle.listing.specs.Files.{Listed}
use Rattle.listing.specs.Lines.{lines_of, Told}
use Rattle.listing.proofs.text.lines.Goals as goal

-- of a file that is not too long the lines of what it lists are told
told_read : (bs : List ℕ) (job : Option ℕ) (es : List (Event Cell)) (f : Option ByteRefusal) → length bs ≤ 65536 → Listed bs job es f → (lines : List Line) → lines ≡ lines_of (length bs) job es f → Told bs lines
told_read bs job es f short listed lines e = record { long = λ l. absurd (omega arith); read = λ _. (job, es, f, listed, e) }

pub returns-in-Ok : goal.returns-in-Ok
returns-in-Ok c =
    let told = told_read _ (Some c.in-Ok.listing.job) _ c.in-Ok.listing.refusal (omega arith) c.in-Ok.ensures.listed in
    search (rules, told)

pub returns-in-Err-Refused : goal.returns-in-Err-Refused
returns-in-Err-Refused c =
    let listed = rw c.in-Err-Refused.field-0-is at c.in-Err-Refused.ensures.listed in
    let told = told_read c.args.bytes.now None [] (Some c.in-Err-Refused.refusal) (omega arith) listed in
    search (rules, told)
