-- The parts of a clean past, as a run needs them; and the marks of its cells, kept up to date.
use Rattle.std.proofs.Math.Bool.{or-false}
use Rattle.std.proofs.lemmas.Bool.Decides.{nat_tests}
use Rattle.std.proofs.Common.{◌≡◌, ℕ, ◌<◌, T, leb, ◌∷◌, length, Some, None, Option, sym, refl, ap, ◌∙◌, subst, inl, inr, arith, add-one}
use Rattle.model.specs.declared.Event.{Event}
use Rattle.model.specs.declared.Event.TheVariants.{Read, Write}
use Rattle.model.specs.declared.Race.{Race}
use Rattle.model.specs.Past.{Past, actor}
use Rattle.model.specs.Accesses.{CellKind}
use Rattle.model.specs.Rules.{Limits, taken, judge, race_of}
use Rattle.model.specs.Laws.{Clean}
use Rattle.model.specs.Orders.{Order}
use Rattle.model.specs.Link.{order_of, step_now}
use Rattle.model.specs.Parts.{history_of, history_with, after_read, after_write, parts_of, counted, ByParts, JudgedByParts, MarksKept}
use Rattle.model.proofs.Shelf.Tests.{tried, cond_no}
use Rattle.model.proofs.Orderings.Races.{passed, taken_race}
use Rattle.model.proofs.Linking.Sound.{Sound, clean_sound, taken_good}
use Rattle.model.proofs.Parting.Words.{parts_ext}
use Rattle.model.proofs.Parting.Judged.{judged_is}
use Rattle.model.proofs.Parting.Held.{number_held}
use Rattle.model.proofs.Parting.Moved.{parts_stepped}
use Rattle.model.proofs.Parting.Room.{room}
use Rattle.model.proofs.Parting.Marks.{step_now_cur, history_other, read_history, write_history}

module _ {C : Type 0} (k : CellKind C) (l : Limits) where
  -- a taken event, with a race or without, finds room for its count
  counts : (h : Past C) (e : Event C) (r : Option (Race C)) → judge k l h e ≡ taken r → length h < l.events
  counts h e r q = let f = (passed (leb l.events (length h)) 10 _ r q).0 in grind arith

  -- only a read or a write makes a race, and these move neither the order nor the names
  raced : (h : Past C) (e : Event C) (r : Race C) → race_of k h e ≡ Some r
      → record (parts_of k l (e ∷ h)) { cells = (parts_of k l h).cells } ≡ counted (parts_of k l h)
  raced h (Read t c) r q = parts_ext _ _ refl refl refl (sym (add-one (length h)))
  raced h (Write t c) r q = parts_ext _ _ refl refl refl (sym (add-one (length h)))
  raced h e r q = cc

  by_parts : (h : Past C) → Clean k l h → ByParts k l h
  by_parts h c =
      record {
        judged_is = λ e. judged_is k l h e c;
        stepped_is = λ e r q. parts_stepped k l h e r c q;
        raced_is = λ e r q. raced h e r (taken_race k l h e (Some r) q);
        counted_is = counts h;
        number_is = λ t n q. (number_held k l h c t n q).0;
        room = room k l h c;
      }

  pub judged_by_parts : JudgedByParts k l
  judged_by_parts = (refl, by_parts)

  module _ (h : Past C) where
    -- the order that the keeper means
    abbrev m : Order
    m = order_of l.steps h

    -- the cell that is accessed
    read_here : (t : ℕ) (c d : C) → c ≡ d → Sound k (Read t d ∷ h)
        → history_of k (Read t d ∷ h) c ≡ after_read m (step_now h t) (length h) (history_of k h c)
    read_here t c d p s =
        subst (λ x. history_of k (Read t x ∷ h) c ≡ after_read m (step_now h t) (length h) (history_of k h c)) p
        (read_history k l.steps h t c (subst (λ x. Sound k (Read t x ∷ h)) (sym p) s)
        ∙ ap (λ x. after_read m x (length h) (history_of k h c)) (sym (step_now_cur k l.steps h t)))

    write_here : (t : ℕ) (c d : C) → c ≡ d → history_of k (Write t d ∷ h) c ≡ after_write (step_now h t) (length h)
    write_here t c d p = grind (arith, nat_tests, write_history, step_now_cur)

    kept : (e : Event C) (c : C) → Sound k (e ∷ h)
        → history_of k (e ∷ h) c ≡ history_with k m (step_now h (actor e)) (length h) e c (history_of k h c)
    kept (Read t d) c s =
        elim (tried (k.same c d)) [
          | inl y ↦ grind (arith, read_here)
          | inr n ↦
              history_other k l.steps h (Read t d) c s (λ z. n (subst T (or-false (k.same c d)) z))
              ∙ sym (cond_no (k.same c d) _ _ n)
        ]
    kept (Write t d) c s =
        elim (tried (k.same c d)) [
          | inl y ↦ grind (arith, write_here)
          | inr n ↦ history_other k l.steps h (Write t d) c s n ∙ sym (cond_no (k.same c d) _ _ n)
        ]
    kept e c s = history_other k l.steps h e c s (λ z. z)

  pub marks_kept : MarksKept k l
  marks_kept h e q p c = kept h e c (taken_good k l h e None p, clean_sound k l h q)
