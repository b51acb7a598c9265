-- The events of a file, fed to a run.
use Rattle.std.specs.Prelude.{◌≡◌, ℕ, ◌+◌, List, [], ◌++◌, length, reverse, Option, Some, None, Result, Ok, Err}
use Rattle.std.specs.List.{AllByRecursion}
use Rattle.model.specs.declared.Cell.{Cell}
use Rattle.model.specs.declared.History.{History}
use Rattle.model.specs.declared.Race.{Race}
use Rattle.model.specs.Past.{Past}
use Rattle.model.specs.Mailboxes.{mailbox_cells}
use Rattle.model.specs.Orders.{Order}
use Rattle.model.specs.Parts.{Keyed}
use Rattle.model.specs.Rules.{Limits}
use Rattle.model.specs.Laws.{Outcome}
use Rattle.model.specs.Runs.{Opening, all_fed}
use Rattle.record.specs.declared.reader.Reader.{Reader}
use Rattle.record.specs.Events.{Writable}
use Rattle.record.specs.Readers.{left_of}
use Rattle.run.specs.declared.run.Run.{Run}
use Rattle.run.specs.Lawful.{Led}
use Rattle.checker.specs.declared.fault.FileRefusal.{FileRefusal}
use Rattle.checker.specs.declared.report.Report.{Report}
use Rattle.checker.specs.Checks.{past_form, RefusedBy, Ends}

-- what stops the feeding after the past h, which is taken, and the race that its last event makes, if it does
abbrev pub StoppedBy : Limits → Past Cell → Option (Race Cell) → List ℕ → ℕ → Result (Unit {0}) FileRefusal → Type 0
StoppedBy l h None rest at (Ok u) = rest ≡ []
StoppedBy l h (Some r) rest at (Ok u) = Unit {0}
StoppedBy l h None rest at (Err f) = (f.byte ≡ at) × RefusedBy l h rest f.fault
StoppedBy l h (Some r) rest at (Err f) = ⊥

-- the bytes bs hold events that a run with the limits l takes, and then `rest`
pub record Takes (l : Limits) (bs : List ℕ) (h : Past Cell) (race : Option (Race Cell)) (rest : List ℕ) : Type 0 where
  pub each_fits : AllByRecursion Writable (reverse h)
  pub cut : bs ≡ past_form h ++ rest
  pub outcome : Outcome mailbox_cells l h race

module _ {K S N : Type 0} (order : K → Order) (cells : S → Keyed Cell History) (names : N → Keyed ℕ ℕ) where
  -- a run that was just opened is fed what stands before the reader
  abbrev pub FedUpTo : Reader → Run K S N → Result (Unit {0}) FileRefusal → Run K S N → Type 0
  FedUpTo r was result is =
      (o : Opening) → Led order cells names o [] was
      → (h : Past Cell) × (race : Option (Race Cell)) × (rest : List ℕ) × Takes o.limits (left_of r) h race rest
      × StoppedBy o.limits h race rest (r.place + length (past_form h)) result
      × ((u : Unit {0}) → result ≡ Ok u → Led order cells names o (all_fed h) is)

  -- and then sealed, or its token is withdrawn
  abbrev pub Finished : Reader → Run K S N → ℕ → Report → Type 0
  Finished r was job report =
      (o : Opening) → Led order cells names o [] was → job ≡ o.job
      → (h : Past Cell) × (race : Option (Race Cell)) × (rest : List ℕ) × Takes o.limits (left_of r) h race rest
      × Ends o.limits o.job h race rest (r.place + length (past_form h)) report
