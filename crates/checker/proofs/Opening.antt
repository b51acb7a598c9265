-- A job number is read behind the heading, or what is refused stands at the start or right behind the heading.
use Rattle.std.proofs.Common.{◌≡◌, ℕ, ◌+◌, List, ◌++◌, length, Ok, Err, Option, Result, sym, ap, ◌∙◌, inl, inr, arith, length-append}
use Rattle.std.proofs.lemmas.List.{append_assoc}
use Rattle.model.specs.declared.Cell.{Cell}
use Rattle.model.specs.declared.Race.{Race}
use Rattle.model.specs.Past.{Past}
use Rattle.model.specs.Rules.{Limits}
use Rattle.record.specs.declared.fault.ByteRefusal.{ByteRefusal}
use Rattle.record.specs.declared.reader.Reader.{Reader}
use Rattle.record.specs.Numbers.{number_form}
use Rattle.record.specs.Heading.{heading}
use Rattle.record.specs.Readers.{left_of, Passed, JobCall}
use Rattle.listing.specs.Files.{NoJob}
use Rattle.checker.specs.declared.report.Report.{Report}
use Rattle.checker.specs.Checks.{JobRead, Opened, Ends, past_form}
use Rattle.checker.specs.Feeding.{Takes}

-- past one part and then past another is past both
passed_both : (r mid s : Reader) (a b : List ℕ) → Passed r a mid → Passed mid b s → Passed r (a ++ b) s
passed_both r mid s a b (p, at) (q, then) = (p ∙ ap (a ++◌) q ∙ sym (append_assoc a b (left_of s)), omega (arith, length-append a b))

-- the heading is read, and then the call for the job number is made
pub job_after : (r mid s : Reader) (got : Result ℕ ByteRefusal) → Passed r heading mid → JobCall mid got s → JobRead r got s
job_after r mid s (Ok job) p (fits, q) = (fits, passed_both r mid s heading (number_form job) p q)
job_after r mid s (Err f) p (stayed, why) = inr (mid, p, stayed, why)

-- a reader at the start of the bytes
module _ (bs : List ℕ) (r s : Reader) (all : left_of r ≡ bs) (start : r.place ≡ 0) where
  pub no_job : (f : ByteRefusal) → JobRead r (Err f) s → NoJob bs f
  no_job f (inl ((same, place), why)) = inl (place ∙ start, rw all at why)
  no_job f (inr (mid, passed, (same, place), why)) = inr (left_of mid, sym all ∙ passed.0, omega arith, why)

  -- what is taken after the job number is what the file holds
  pub opened : (l : Limits) (job : ℕ) (h : Past Cell) (race : Option (Race Cell)) (rest : List ℕ) (report : Report)
      → JobRead r (Ok job) s → Takes l (left_of s) h race rest → Ends l job h race rest (s.place + length (past_form h)) report
      → Opened l bs report
  opened l job h race rest report (fits, passed) takes ends = record {
    job = job;
    taken = h;
    race = race;
    rest = rest;
    job_fits = fits;
    each_fits = takes.each_fits;
    cut = sym all ∙ passed.0 ∙ append_assoc heading (number_form job) (left_of s) ∙ ap (λ bs. heading ++ (number_form job ++ bs)) takes.cut;
    outcome = takes.outcome;
    ends =
        let place : s.place + length (past_form h) ≡ 4 + (length (number_form job) + length (past_form h)) =
        omega (arith, length-append heading (number_form job)) in
        rw place at ends;
  }
