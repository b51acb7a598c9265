-- A taken event moves each part as the longer past has it; the parts are equal if each field is.
use Rattle.std.proofs.Math.Bool.{or-false}
use Rattle.std.proofs.lemmas.Bool.Decides.{nat_tests}
use Rattle.std.proofs.Common.{◌≡◌, ◌∷◌, length, Some, Option, sym, refl, ap, ◌∙◌, arith, add-one}
use Rattle.model.specs.declared.Event.{Event}
use Rattle.model.specs.declared.Event.TheVariants.{Spawn, Read, Write}
use Rattle.model.specs.declared.Race.{Race}
use Rattle.model.specs.Past.{Past, actor}
use Rattle.model.specs.Accesses.{CellKind}
use Rattle.model.specs.Rules.{Limits, taken, judge}
use Rattle.model.specs.Laws.{Clean}
use Rattle.model.specs.Link.{order_of, number}
use Rattle.model.specs.Parts.{parts_of, task_number, history_in, after_read, after_write, moved_parts, stepped}
use Rattle.model.proofs.Linking.Sound.{Sound, taken_good, clean_sound}
use Rattle.model.proofs.Parting.Words.{parts_ext}
use Rattle.model.proofs.Parting.Tasks.{task_known}
use Rattle.model.proofs.Parting.Cells.{history_is}
use Rattle.model.proofs.Parting.Marks.{read_history, write_history}
use Rattle.model.proofs.Parting.Tables.{still_cells, moved_cells, spawn_names}

module _ {C : Type 0} (k : CellKind C) where
  parts_step : (l : Limits) (h : Past C) (e : Event C) → Sound k (e ∷ h)
      → parts_of k l (e ∷ h) ≡ moved_parts k (parts_of k l h) (number h (actor e)) e
  parts_step l h (Spawn t u) s =
      parts_ext _ _ refl (still_cells k l h (Spawn t u) s refl (λ j z. z)) (spawn_names k l h t u s.0.extra) (sym (add-one (length h)))
  parts_step l h (Read t c) s =
      let m = order_of l.steps h in
      let new = after_read m (m.task (number h t)).current (length h) in
      let kept = read_history k l.steps h t c s ∙ ap new (sym (history_is k l h c)) in
      parts_ext _ _ refl
      (moved_cells k l h (Read t c) c (new (history_in (parts_of k l h).cells c)) s refl (λ j. or-false (k.same j c)) kept)
      refl (sym (add-one (length h)))
  parts_step l h (Write t c) s =
      let new = after_write ((order_of l.steps h).task (number h t)).current (length h) in
      parts_ext _ _ refl
      (moved_cells k l h (Write t c) c new s refl (λ j. refl) (write_history k l.steps h t c))
      refl (sym (add-one (length h)))
  parts_step l h e s = parts_ext _ _ refl (still_cells k l h e s refl (λ j z. z)) refl (sym (add-one (length h)))

  -- a taken event, with a race or without, moves the parts as they say themselves
  parts_taken : (l : Limits) (h : Past C) (e : Event C) (r : Option (Race C)) → Clean k l h → judge k l h e ≡ taken r
      → parts_of k l (e ∷ h) ≡ moved_parts k (parts_of k l h) (number h (actor e)) e
  parts_taken l h e r c q = parts_step l h e (taken_good k l h e r q, clean_sound k l h c)

  -- a task that does a taken event has its number in the parts
  actor_number : (l : Limits) (h : Past C) (e : Event C) (r : Option (Race C)) → Clean k l h → judge k l h e ≡ taken r
      → task_number (parts_of k l h) (actor e) ≡ Some (number h (actor e))
  actor_number l h e r c q = task_known k l h (clean_sound k l h c) (actor e) (taken_good k l h e r q).is_known

  pub parts_stepped : (l : Limits) (h : Past C) (e : Event C) (r : Option (Race C)) → Clean k l h → judge k l h e ≡ taken r
      → parts_of k l (e ∷ h) ≡ stepped k (parts_of k l h) e
  parts_stepped l h e r c q = grind (arith, nat_tests, parts_taken, actor_number)
