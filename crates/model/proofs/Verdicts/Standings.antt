-- Whatever is called, the events that were taken and the race that is named make a lawful verdict.
use Rattle.std.proofs.Common.{◌≡◌, ℕ, Bool, true, false, cond, eqb, List, [], ◌∷◌, length, Some, None, refl}
use Rattle.model.specs.declared.Event.{Event}
use Rattle.model.specs.declared.Stage.{Stage}
use Rattle.model.specs.declared.Stage.TheVariants.{Feeding, Raced, Sealed}
use Rattle.model.specs.declared.Call.{Call}
use Rattle.model.specs.declared.Call.TheVariants.{Feed, Seal}
use Rattle.model.specs.Past.{Past}
use Rattle.model.specs.Accesses.{CellKind}
use Rattle.model.specs.Rules.{Answer, taken, refused, judge}
use Rattle.model.specs.Laws.{Clean, Outcome}
use Rattle.model.specs.Runs.{Opening, Standing, turned_away, gave_verdict, named, answer_reply, moved_by, answer_to, after_calls}

module _ {C : Type 0} (k : CellKind C) (o : Opening) where
  -- the past and the race that is named here make a verdict
  abbrev Judged : Standing C → Type 0
  Judged s = Outcome k o.limits s.past (named s.stage)

  fed : (h : Past C) (e : Event C) (a : Answer C) → judge k o.limits h e ≡ a → Clean k o.limits h
      → Judged (moved_by (record { past = h; stage = Feeding }) (Feed e) (answer_reply (length h) a))
  fed h e (taken None) p q = (p, q)
  fed h e (taken (Some r)) p q = (p, q)
  fed h e (refused n) p q = q

  shut : (h : Past C) (g : Stage C) (j : ℕ) (b : Bool) → Outcome k o.limits h (named g)
      → Judged (moved_by (record { past = h; stage = g }) (Seal j)
      (cond b (gave_verdict o.job (named g) (length h)) (turned_away 12 (length h))))
  shut h g j true q = q
  shut h g j false q = q

  called : (h : Past C) (g : Stage C) (c : Call C) → Outcome k o.limits h (named g)
      → Judged (moved_by (record { past = h; stage = g }) c (answer_to k o (record { past = h; stage = g }) c))
  called h Feeding (Feed e) q = fed h e (judge k o.limits h e) refl q
  called h Feeding (Seal j) q = shut h Feeding j (eqb j o.job) q
  called h (Raced r) (Feed e) q = q
  called h (Raced r) (Seal j) q = shut h (Raced r) j (eqb j o.job) q
  called h (Sealed r) (Feed e) q = q
  called h (Sealed r) (Seal j) q = q

  pub lawful : (cs : List (Call C)) → Judged (after_calls k o cs)
  lawful [] = tt
  lawful (c ∷ cs) = called (after_calls k o cs).past (after_calls k o cs).stage c (lawful cs)
