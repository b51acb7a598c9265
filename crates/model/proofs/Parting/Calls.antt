-- Before each call a run that holds its parts and a run of the rules agree on the stage and the count, and while it is fed on the
-- parts of the past; so each call is answered alike.
use Rattle.std.proofs.Common.{◌≡◌, ℕ, Bool, true, false, cond, eqb, List, [], ◌∷◌, length, Some, None, sym, refl, ap, ◌∙◌, subst, add-one}
use Rattle.model.specs.declared.Event.{Event}
use Rattle.model.specs.declared.Stage.{Stage}
use Rattle.model.specs.declared.Stage.TheVariants.{Feeding, Raced, Sealed}
use Rattle.model.specs.declared.Call.{Call}
use Rattle.model.specs.declared.Call.TheVariants.{Feed, Seal}
use Rattle.model.specs.Past.{Past}
use Rattle.model.specs.Accesses.{CellKind}
use Rattle.model.specs.Rules.{Answer, taken, refused, judge}
use Rattle.model.specs.Laws.{Clean, Outcome}
use Rattle.model.specs.Runs.{Opening, Standing, Reply, turned_away, gave_verdict, named, answer_reply, seal_reply}
use Rattle.model.specs.Runs.{moved_by, answer_to, after_calls, replies}
use Rattle.model.specs.Parts.{Parts, parts_of}
use Rattle.model.specs.Holding.{Holding, held_by, held_answer, held_after, held_replies, AnsweredByParts}
use Rattle.model.proofs.Parting.ByParts.{judged_by_parts}
use Rattle.model.proofs.Verdicts.Standings.{lawful}

module _ {C : Type 0} (k : CellKind C) (o : Opening) where
  -- what parts that are held at the stage g have of the past h: the count, and all of it while the run is fed
  abbrev Fits : Past C → Parts C → Stage C → Type 0
  Fits h p g = (p.count ≡ length h) × (g ≡ Feeding → p ≡ parts_of k o.limits h)

  -- what is held agrees with where the run stands
  abbrev Agree : Holding C → Standing C → Type 0
  Agree s w = (s.stage ≡ w.stage) × Fits w.past s.parts w.stage

  -- so it does after the call c, which both answer by r
  abbrev After : Holding C → Standing C → Call C → Reply C → Type 0
  After s w c r = Agree (held_by k s c r) (moved_by w c r)

  -- the call c is answered alike, and they agree after it
  abbrev Step : Holding C → Standing C → Call C → Type 0
  Step s w c = (held_answer k o s c ≡ answer_to k o w c) × After s w c (answer_to k o w c)

  -- an event that is judged to be a
  fed : (h : Past C) (e : Event C) (a : Answer C) → judge k o.limits h e ≡ a → Clean k o.limits h
      → After (record { parts = parts_of k o.limits h; stage = Feeding }) (record { past = h; stage = Feeding }) (Feed e)
      (answer_reply (length h) a)
  fed h e (taken None) q c =
      let m = sym (((judged_by_parts k o.limits).1 h c).stepped_is e None q) in (refl, (ap (λ (p : Parts C). p.count) m, λ f. m))
  fed h e (taken (Some r)) q c = (refl, (add-one (length h), λ f. cc))
  fed h e (refused n) q c = (refl, (refl, λ f. refl))

  -- a seal, with the run's token or another
  shut : (h : Past C) (p : Parts C) (g : Stage C) (j : ℕ) (b : Bool) → Fits h p g
      → After (record { parts = p; stage = g }) (record { past = h; stage = g }) (Seal j)
      (cond b (gave_verdict o.job (named g) (length h)) (turned_away 12 (length h)))
  shut h p g j true a = (refl, (a.0, λ f. cc))
  shut h p g j false a = (refl, a)

  -- any call, at the same stage
  called : (h : Past C) (p : Parts C) (g : Stage C) (c : Call C) → Outcome k o.limits h (named g) → Fits h p g
      → Step (record { parts = p; stage = g }) (record { past = h; stage = g }) c
  called h p Feeding (Feed e) q a =
      subst (λ x. Step (record { parts = x; stage = Feeding }) (record { past = h; stage = Feeding }) (Feed e)) (sym (a.1 refl))
      (ap (answer_reply (length h)) (((judged_by_parts k o.limits).1 h q).judged_is e), fed h e (judge k o.limits h e) refl q)
  called h p (Raced r) (Feed e) q a = (refl, (refl, a))
  called h p (Sealed r) (Feed e) q a = (ap (turned_away 11) a.0, (refl, a))
  called h p (Sealed r) (Seal j) q a = (ap (turned_away 11) a.0, (refl, a))
  called h p g (Seal j) q a = (ap (λ n. seal_reply o.job n (named g) j) a.0, shut h p g j (eqb j o.job) a)

  call_step : (cs : List (Call C)) (c : Call C) → Agree (held_after k o cs) (after_calls k o cs) → Step (held_after k o cs) (after_calls k o cs) c
  call_step cs c a =
      let s = held_after k o cs in
      let w = after_calls k o cs in
      subst (λ g. Step (record s { stage = g }) w c) (sym a.0) (called w.past s.parts w.stage c (lawful k o cs) a.1)

  all_agree : (cs : List (Call C)) → Agree (held_after k o cs) (after_calls k o cs)
  all_agree [] = (refl, (refl, λ f. sym (judged_by_parts k o.limits).0))
  all_agree (c ∷ cs) = let t = call_step cs c (all_agree cs) in rw t.0 t.1

  same_replies : (cs : List (Call C)) → held_replies k o cs ≡ replies k o cs
  same_replies [] = refl
  same_replies (c ∷ cs) = let t = call_step cs c (all_agree cs) in cc (same_replies cs)

  pub answered_by_parts : (cs : List (Call C)) → AnsweredByParts k o cs
  answered_by_parts cs =
      let a = all_agree cs in
      record { replies_are = same_replies cs; stage_is = a.0; count_is = a.1.0; parts_are = λ f. a.1.1 (sym a.0 ∙ f) }
