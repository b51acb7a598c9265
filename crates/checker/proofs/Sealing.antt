-- A run that was only fed is not sealed, so it answers a seal by its own token with the verdict on what was fed.
use Rattle.std.proofs.Common.{◌≡◌, ℕ, List, [], ◌∷◌, length, Option, Some, None, Ok, Err, refl, ◌∙◌}
use Rattle.model.specs.declared.Cell.{Cell}
use Rattle.model.specs.declared.History.{History}
use Rattle.model.specs.declared.Race.{Race}
use Rattle.model.specs.declared.Call.TheVariants.{Seal}
use Rattle.model.specs.Past.{Past}
use Rattle.model.specs.Mailboxes.{mailbox_cells}
use Rattle.model.specs.Orders.{Order}
use Rattle.model.specs.Parts.{Keyed}
use Rattle.model.specs.Rules.{Limits}
use Rattle.model.specs.Laws.{Outcome}
use Rattle.model.specs.Runs.{Opening, turned_away, gave_verdict, stage_with, answer_to, after_calls, all_fed}
use Rattle.model.proofs.Shelf.Tests.{cond_eq}
use Rattle.model.proofs.Verdicts.Fed.{clean_fed}
use Rattle.record.specs.declared.reader.Reader.{Reader}
use Rattle.run.specs.declared.verdict.Verdict.{Verdict}
use Rattle.run.specs.declared.token.Withdrawn.{Withdrawn}
use Rattle.run.specs.declared.run.Run.{Run}
use Rattle.run.specs.Lawful.{Led, Lawful}
use Rattle.checker.specs.declared.fault.FileRefusal.{FileRefusal}
use Rattle.checker.specs.declared.report.Report.TheVariants.{Sealed, Withdrawn as TokenWithdrawn}
use Rattle.checker.specs.Checks.{Ends}
use Rattle.checker.specs.Feeding.{StoppedBy, FedUpTo, Finished}

-- where a run stands that was fed all of a past
all_taken : (o : Opening) (h : Past Cell) (m : Option (Race Cell)) → Outcome mailbox_cells o.limits h m
    → after_calls mailbox_cells o (all_fed h) ≡ record { past = h; stage = stage_with m }
all_taken o h None q = (clean_fed mailbox_cells o h q).1
all_taken o [] (Some r) q = absurd q
all_taken o (e ∷ h) (Some r) q = rw ((clean_fed mailbox_cells o h q.1).1, q.0)

verdict_given : (o : Opening) (h : Past Cell) (m : Option (Race Cell)) (j : ℕ) → Outcome mailbox_cells o.limits h m → j ≡ o.job
    → answer_to mailbox_cells o (after_calls mailbox_cells o (all_fed h)) (Seal j) ≡ gave_verdict o.job m (length h)
verdict_given o h None j q e = rw (all_taken o h None q) (cond_eq j o.job _ _ e)
verdict_given o h (Some r) j q e = rw (all_taken o h (Some r) q) (cond_eq j o.job _ _ e)

verdict_is : (v : Verdict) (i : ℕ) (m : Option (Race Cell)) (n : ℕ) → gave_verdict v.job v.race v.events ≡ gave_verdict i m n
    → v ≡ record { job = i; race = m; events = n }
verdict_is v i m n e =
    let job : v.job ≡ i = cc in
    let race : v.race ≡ m = cc in
    let events : v.events ≡ n = cc in
    λ x. record { job = job x; race = race x; events = events x }

module _ (l : Limits) (job : ℕ) (h : Past Cell) (rest : List ℕ) (at : ℕ) where
  ends_sealed : (m : Option (Race Cell)) (v : Verdict) → StoppedBy l h m rest at (Ok tt)
      → v ≡ record { job = job; race = m; events = length h } → Ends l job h m rest at (Sealed v)
  ends_sealed None v stop is = (stop, is)
  ends_sealed (Some r) v stop is = is

  ends_withdrawn : (m : Option (Race Cell)) (w : Withdrawn) (x : FileRefusal) → StoppedBy l h m rest at (Err x)
      → w.job ≡ job → Ends l job h m rest at (TokenWithdrawn w x)
  ends_withdrawn None w x stop own = (own, stop.0, stop.1)
  ends_withdrawn (Some r) w x stop own = absurd stop

module _ {K S N : Type 0} {order : K → Order} {cells : S → Keyed Cell History} {names : N → Keyed ℕ ℕ} {was is : Run K S N} (r : Reader) (j : ℕ) where
  pub sealed_at_end : (next : Run K S N) (v : Verdict) → FedUpTo order cells names r was (Ok tt) is
      → Lawful order cells names is (Seal j) (gave_verdict v.job v.race v.events) next → Finished order cells names r was j (Sealed v)
  sealed_at_end next v fed law o l own =
      let q = fed o l in
      let a = law o (all_fed q.0) (q.5 tt refl) in
      let told = verdict_is v _ _ _ (a.0 ∙ verdict_given o q.0 q.1 j q.3.outcome own) in
      (q.0, q.1, q.2, q.3, ends_sealed o.limits o.job q.0 q.2 _ q.1 v q.4 told)

  pub never_turned_away : (next : Run K S N) (n p : ℕ) → FedUpTo order cells names r was (Ok tt) is
      → Lawful order cells names is (Seal j) (turned_away n p) next
      → (o : Opening) → Led order cells names o [] was → j ≡ o.job → ⊥
  never_turned_away next n p fed law o l own =
      let q = fed o l in
      let a = law o (all_fed q.0) (q.5 tt refl) in
      cc (a.0, verdict_given o q.0 q.1 j q.3.outcome own)

  pub withdrawn_at_fault : (w : Withdrawn) (x : FileRefusal) → FedUpTo order cells names r was (Err x) is
      → w.job ≡ j → Finished order cells names r was j (TokenWithdrawn w x)
  withdrawn_at_fault w x fed same o l own =
      let q = fed o l in
      (q.0, q.1, q.2, q.3, ends_withdrawn o.limits o.job q.0 q.2 _ q.1 w x q.4 (same ∙ own))
