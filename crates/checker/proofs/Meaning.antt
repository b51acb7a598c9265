-- The report of a file fits it, and means what the laws of the model say of the events that were taken.
use Rattle.std.proofs.Common.{◌≡◌, ℕ, ◌<◌, ◌≤◌, List, length, Some, refl, subst, inl, inr, arith}
use Rattle.model.specs.declared.Cell.{Cell}
use Rattle.model.specs.declared.Race.{Race}
use Rattle.model.specs.Mailboxes.{mailbox_cells}
use Rattle.model.specs.Rules.{Limits}
use Rattle.model.specs.Legal.{arranged}
use Rattle.model.specs.Laws.{Outcome, Real}
use Rattle.model.specs.Runs.{Opening}
use Rattle.model.proofs.Whole.{clean_settled, races_real, any_order, first_named}
use Rattle.model.proofs.Verdicts.Fed.{clean_fed}
use Rattle.record.specs.declared.fault.ByteFault.TheVariants.{NoRoom}
use Rattle.checker.specs.declared.fault.FileFault.TheVariants.{Bytes}
use Rattle.checker.specs.declared.fault.FileRefusal.{FileRefusal}
use Rattle.checker.specs.declared.report.Report.{Report}
use Rattle.checker.specs.declared.report.Report.TheVariants.{Unopened}
use Rattle.checker.specs.Checks.{Opened, Means, Shut, Checked}

module _ (l : Limits) (bs : List ℕ) where
  -- a race that is named is real
  real : (report : Report) (o : Opened l bs report) (r : Race Cell) → o.race ≡ Some r → Real mailbox_cells l o.taken r
  real report o r e = races_real mailbox_cells l o.taken r (subst (Outcome mailbox_cells l o.taken) e o.outcome)

  means : (report : Report) (o : Opened l bs report) → Means l bs report o
  means report o = record {
    clean_settled = clean_settled mailbox_cells l o.taken o.race o.outcome;
    raced_latest = λ r e. let q = real report o r e in (q.latest, q.clean_before);
    raced_beside = λ r e. (real report o r e).beside;
    clean_any_order = λ e p legal.
        let opening : Opening = record { job = o.job; limits = l } in
        let a = any_order mailbox_cells l o.taken (subst (Outcome mailbox_cells l o.taken) e o.outcome) p legal in
        let f = clean_fed mailbox_cells opening (arranged o.taken p) a.1 in
        (a.0, f.0, f.1);
    first_named = first_named mailbox_cells l o.taken o.race o.outcome;
  }

  -- of a file that is too long nothing is read
  pub too_long : 65536 < length bs → (f : FileRefusal) → f.fault ≡ Bytes NoRoom → f.byte ≡ 65536 → Checked l bs (Unopened f)
  too_long h f fault byte = record {
    long = λ more i. Unopened (record { fault = fault i; byte = byte i });
    read = λ short. absurd (omega arith);
  }

  module _ (short : length bs ≤ 65536) where
    pub shut : (f : FileRefusal) → Shut bs f → Checked l bs (Unopened f)
    shut f none = record { long = λ more. absurd (omega arith); read = λ less. inr (f, refl, none) }

    pub told : (report : Report) → Opened l bs report → Checked l bs report
    told report o = record { long = λ more. absurd (omega arith); read = λ less. inl (o, means report o) }
