-- The laws, with nothing left to assume.
use Rattle.std.proofs.Common.{◌≡◌, ℕ, ◌<◌, T, List, [], ◌∷◌, Some, None, Option, sym, refl, ◌∙◌, subst}
use Rattle.model.specs.declared.Event.{Event}
use Rattle.model.specs.declared.Race.{Race}
use Rattle.model.specs.declared.Call.{Call}
use Rattle.model.specs.Past.{Past, at}
use Rattle.model.specs.Before.{before, through}
use Rattle.model.specs.Accesses.{CellKind, conflicts}
use Rattle.model.specs.Rules.{Limits}
use Rattle.model.specs.Legal.{arranged}
use Rattle.model.specs.Laws.{StrictOrder, Clean, Outcome, CleanSettled, RacesReal, AnyOrder, ToldSame, FirstNamed}
use Rattle.model.specs.Runs.{Opening, after_calls, past_of, race_named, Upheld}
use Rattle.model.specs.Link.{StepsTell}
use Rattle.model.proofs.Trees.Reached.{reached_laws}
use Rattle.model.proofs.Shelf.Befores.{before_of, before_in}
use Rattle.model.proofs.Orderings.Legals.{recorded_legal}
use Rattle.model.proofs.Orderings.Races as races
use Rattle.model.proofs.Orderings.Settles as settles
use Rattle.model.proofs.Reorderings.Sublists.{part_of_legal}
use Rattle.model.proofs.Reorderings.Arranged.{length_arranged}
use Rattle.model.proofs.Reorderings.AnyOrder as reorderings
use Rattle.model.proofs.Linking.Sound.{Sound, clean_sound, taken_good}
use Rattle.model.proofs.Linking.Marks as readers
use Rattle.model.proofs.Linking.Linked.{linked}
use Rattle.model.proofs.Telling.Strict.{before_irrefl, before_asym}
use Rattle.model.proofs.Telling.Same.{told_before, before_told}
use Rattle.model.proofs.Verdicts.Standings.{lawful}
use Rattle.model.proofs.Verdicts.Fed.{clean_fed}
use Rattle.model.proofs.Verdicts.Replied.{event_answered, seal_answered, taken_tells, unchanged, after_race, sealed_tells}
use Rattle.model.proofs.Verdicts.FirstConflict as firsts

pub strict_order : {C : Type 0} (h : Past C) → StrictOrder h
strict_order h =
    record {
      tested = λ i j. (before_in h i j, before_of h i j);
      irreflexive = before_irrefl h;
      asymmetric = before_asym h;
      transitive = λ i j k a b. through i j k a b;
      recorded = recorded_legal h;
    }

module _ {C : Type 0} (k : CellKind C) where
  -- all conflicting pairs of a clean past are ordered: the two reads that are kept are the right two
  pub clean_ordered : (l : Limits) (h : Past C) → Clean k l h → (i j : ℕ) (d e : Event C)
      → i < j → at h i ≡ Some d → at h j ≡ Some e → T (conflicts k d e) → T (before h i j)
  clean_ordered l h c = readers.clean_ordered k l.steps reached_laws l h c

  pub clean_settled : (l : Limits) → CleanSettled k l
  clean_settled l h None q = (λ e. settles.clean_settled k clean_ordered l h q, λ s. refl)
  clean_settled l h (Some r) q = (λ e. cc, λ s. absurd (settles.raced_unsettled k l h r q s))

  pub races_real : (l : Limits) → RacesReal k l
  races_real l [] r q = absurd q
  races_real l (e ∷ h) r q =
      record {
        clean_before = subst (Clean k l) (sym (races.behind_second k l e h r q)) q.1;
        latest = races.raced_latest k l (e ∷ h) r q;
        beside = races.raced_beside k l (e ∷ h) r q;
      }

  pub any_order : (l : Limits) → AnyOrder k l
  any_order l h c o legal =
      (length_arranged h o (part_of_legal h o legal) ∙ legal.whole, reorderings.clean_any_order k clean_ordered l h c o legal)

  outcome_sound : (l : Limits) (h : Past C) (m : Option (Race C)) → Outcome k l h m → Sound k h
  outcome_sound l h None q = clean_sound k l h q
  outcome_sound l [] (Some r) q = absurd q
  outcome_sound l (e ∷ h) (Some r) q = (taken_good k l h e (Some r) q.0, clean_sound k l h q.1)

  pub told_same : (l : Limits) → ToldSame k l
  told_same l h m q i j = let s = outcome_sound l h m q in (told_before k h s i j, before_told k h s i j)

  pub steps_tell : (l : Limits) → StepsTell k l
  steps_tell l h m q = linked k l.steps reached_laws h (outcome_sound l h m q)

  pub first_named : (l : Limits) → FirstNamed k l
  first_named = firsts.first_named k clean_ordered

  pub upheld : (o : Opening) (cs : List (Call C)) → Upheld k o cs
  upheld o cs =
      let h = past_of k o cs in
      let w = lawful k o cs in
      record {
        lawful = w;
        clean_settled = clean_settled o.limits h (race_named k o cs) w;
        race_real = λ r e. races_real o.limits h r (subst (Outcome k o.limits h) e w);
        any_order = λ e p legal.
            let a = any_order o.limits h (subst (Outcome k o.limits h) e w) p legal in
            let f = clean_fed k o (arranged h p) a.1 in (a.0, f.0, f.1);
        first_named = first_named o.limits h (race_named k o cs) w;
        event_answer = event_answered k o (after_calls k o cs);
        seal_answer = seal_answered k o (after_calls k o cs);
        taken_tells = taken_tells k o (after_calls k o cs);
        unchanged = unchanged k o (after_calls k o cs);
        after_race = after_race k o (after_calls k o cs);
        sealed_tells = sealed_tells k o (after_calls k o cs);
      }
