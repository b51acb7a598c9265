-- Every legal order of a clean past's events is clean.
use Rattle.std.proofs.Math.Facts.{or_yes, and_yes}
use Rattle.std.proofs.lemmas.Bool.Decides.{nat_tests}
use Rattle.std.proofs.Common.{◌≡◌, ℕ, suc, ◌+◌, ◌<◌, ◌≤◌, cond, not, ◌&&◌, T, eqb, ltb, leb, List, [], ◌∷◌, length, Some, None, sym, refl, ap, ◌∙◌, subst, inl, inr, arith, T_not}
use lib.Dec.{eqb_refl}
use Rattle.model.specs.declared.Event.{Event}
use Rattle.model.specs.declared.Event.TheVariants.{Spawn, End, Open, Close, Read, Write}
use Rattle.model.specs.Lists.{is_empty, some_or}
use Rattle.model.specs.Past.{Past, at, behind, actor, makes, ends, own, made, spawned_tasks}
use Rattle.model.specs.Before.{HappensBefore, before}
use Rattle.model.specs.Accesses.{CellKind, cell_of, accesses, conflicts}
use Rattle.model.specs.Cells.{cell_held, cells_held}
use Rattle.model.specs.Rules.{Limits, taken, judge, first_tests, steps_held, steps_of}
use Rattle.model.specs.Legal.{Legal, arranged}
use Rattle.model.specs.Laws.{Clean}
use Rattle.model.proofs.Shelf.Befores.{before_of, before_in}
use Rattle.model.proofs.Shelf.Places.{ends_is}
use Rattle.model.proofs.Shelf.Tests.{or_l, cond_no}
use Rattle.model.proofs.Shelf.Lists.{mem_swap, mem_head}
use Rattle.model.proofs.Shelf.Places.{at_some, any_at, at_any}
use Rattle.model.proofs.Orderings.Rows.{apart_bound}
use Rattle.model.proofs.Orderings.Races.{Pass, kind_tests, passes_clean}
use Rattle.model.proofs.Orderings.Settles.{Ordered, conflicts_sym}
use Rattle.model.proofs.Linking.Sound.{Known, HasEnded, Sound, clean_sound, actor_known, end_last}
use Rattle.model.proofs.Reorderings.Sublists.{Part, part_apart, part_inside, part_of_legal, part_early}
use Rattle.model.proofs.Reorderings.Arranged.{arranged_cons, length_arranged, any_arranged, arranged_any}
use Rattle.model.proofs.Reorderings.Arranged.{pos, pos_here, pos_there, pos_find}
use Rattle.model.proofs.Reorderings.Facts.{same_before, makes_before, one_maker, passed_at}
use Rattle.model.proofs.Reorderings.Homes.{own_part}
use Rattle.model.proofs.Reorderings.Transfer.{transfer}
use Rattle.model.proofs.Reorderings.Cells.{cells_cover}
use Rattle.model.proofs.Reorderings.Counts.{steps_part, spawned_part}
use Rattle.model.proofs.Reorderings.Bounds.{events_bound, names_bound, steps_bound, cells_bound, steps_pos}
use Rattle.model.proofs.Reorderings.Finishes.{none_left}
use Rattle.model.proofs.Reorderings.Marks.{no_race}

-- an event of a clean past, on a part that holds all that is before it
module _ {C : Type 0} (k : CellKind C) (l : Limits) (h : Past C) (cl : Clean k l h) (i : ℕ) (s : List ℕ) (P : Part h (i ∷ s)) where
  -- the part, arranged
  abbrev now : Past C
  now = arranged h s

  so : Sound k h
  so = clean_sound k l h cl

  room_left : T (leb l.events (length now)) → ⊥
  room_left =
      let a = length_arranged h s P.3 in
      let b : length (i ∷ s) ≤ length h = apart_bound (length h) (i ∷ s) (part_apart h (i ∷ s) P) (part_inside h (i ∷ s) P) in
      let c = events_bound k l h cl in
      grind arith

  known_now : (e : Event C) → at h i ≡ Some e → Known k now (actor e)
  known_now e a = elim (or_yes (eqb (actor e) 0) (made h (actor e)) (actor_known k h so i e a)) [
    | inl z ↦ or_l (eqb (actor e) 0) (made now (actor e)) z
    | inr m ↦
        (let (q, c, b, x) = any_at (makes (actor e)) h m in
        let first = makes_before k h so q i c e b a x in
        grind (arith, nat_tests, now, arranged_any))
  ]

  not_over : (e : Event C) → at h i ≡ Some e → HasEnded k now (actor e) → ⊥
  not_over e a y =
      let (q, c, m, b, x) = any_arranged h (ends (actor e)) s P.3 y in
      let b' : at h q ≡ Some (End (actor e)) = b ∙ ap Some (ends_is (actor e) c x) in
      let early = part_early h i s P q m (λ lt. same_before h i q e (End (actor e)) a b' lt refl) in
      let late = end_last k h so q i (actor e) e b' a refl in
      omega arith

  more_steps : (e : Event C) → at h i ≡ Some e → 1 ≤ steps_of e → T (ltb l.steps (steps_held now + steps_of e)) → ⊥
  more_steps e a p =
      let b = steps_part h (i ∷ s) P in
      let c : steps_held (arranged h (i ∷ s)) ≡ steps_of e + steps_held now = ap steps_held (arranged_cons h i s e a) in
      let d = steps_pos now in
      let f : steps_held h ≤ l.steps = elim (steps_bound k l h cl) [ inl x ↦ x | inr x ↦ absurd (omega arith) ] in
      grind arith

  new_task : (t u : ℕ) → at h i ≡ Some (Spawn t u) → Known k now u → ⊥
  new_task t u a y = elim (or_yes (eqb u 0) (made now u) y) [
    | inl z ↦ (passed_at k l h cl i (Spawn t u) a).1.0 (or_l (eqb u 0) (made (behind h i) u) z)
    | inr z ↦
        (let (q, c, m, b, x) = any_arranged h (makes u) s P.3 z in
        P.1 (mem_swap q i s (one_maker k h so u q i c (Spawn t u) b a x (eqb_refl u)) m))
  ]

  more_names : (t u : ℕ) → at h i ≡ Some (Spawn t u) → T (leb l.names (length (spawned_tasks now))) → ⊥
  more_names t u a =
      let b = spawned_part h (i ∷ s) P in
      let c : length (spawned_tasks (arranged h (i ∷ s))) ≡ suc (length (spawned_tasks now)) =
      ap (λ g. length (spawned_tasks g)) (arranged_cons h i s (Spawn t u) a) in
      let d = names_bound k l h cl in
      grind arith

  -- a cell of the part is one of the past
  held_still : (c : C) → T (cell_held k (arranged h (i ∷ s)) c) → T (cell_held k h c)
  held_still c y = let (q, d, m, b, x) = any_arranged h (accesses k c) (i ∷ s) P y in at_any (accesses k c) h q d b x

  more_cells : (e : Event C) (c : C) → at h i ≡ Some e → cell_of e ≡ Some c
      → T (not (cell_held k now c) && leb l.cells (cells_held k now)) → ⊥
  more_cells e c a y z =
      let n = T_not (cell_held k now c) ((and_yes (not (cell_held k now c)) (leb l.cells (cells_held k now)) z).0) in
      let b = cells_cover k (arranged h (i ∷ s)) h held_still in
      let d : cells_held k (arranged h (i ∷ s)) ≡ 1 + cells_held k now =
      ap (cells_held k) (arranged_cons h i s e a)
      ∙ ap (λ o. some_or (λ x. cond (cell_held k now x) 0 1) 0 o + cells_held k now) y
      ∙ ap (λ x. x + cells_held k now) (cond_no (cell_held k now c) 0 1 n) in
      let f = cells_bound k l h cl in
      grind arith

  -- so no test passes of it
  kind_passes : (e : Event C) → at h i ≡ Some e → Pass (kind_tests k l now e)
  kind_passes (Spawn t u) a =
      (new_task t u a, (more_names t u a, (not_over (Spawn t u) a, (more_steps (Spawn t u) a (omega arith), tt))))
  kind_passes (End t) a =
      let closed : T (not (is_empty (own now t))) → ⊥ =
      subst (λ w. T (not (is_empty w)) → ⊥) (sym (own_part h i s (End t) P a)) (passed_at k l h cl i (End t) a).1.1.0 in
      (not_over (End t) a, (closed, tt))
  kind_passes (Open t) a = (not_over (Open t) a, (more_steps (Open t) a (omega arith), tt))
  kind_passes (Close t) a =
      let opened : T (is_empty (own now t)) → ⊥ =
      subst (λ w. T (is_empty w) → ⊥) (sym (own_part h i s (Close t) P a)) (passed_at k l h cl i (Close t) a).1.1.0 in
      (not_over (Close t) a, (opened, (none_left k h so i s t P a, (more_steps (Close t) a (omega arith), tt))))
  kind_passes (Read t c) a = (not_over (Read t c) a, (more_cells (Read t c) c a refl, tt))
  kind_passes (Write t c) a = (not_over (Write t c) a, (more_cells (Write t c) c a refl, tt))

  first_passes : (e : Event C) → at h i ≡ Some e → Pass (first_tests k l now e)
  first_passes e a = grind (arith, nat_tests, room_left, passed_at k l h cl i, known_now)

module _
    {C : Type 0} (k : CellKind C)
    (clean_ordered : (l : Limits) (h : Past C) → Clean k l h → Ordered k h) where
  module _ (l : Limits) (h : Past C) (cl : Clean k l h) where
    -- an access of a part that conflicts with the next event is before it
    mark_before : (i : ℕ) (s : List ℕ) (e : Event C) → Part h (i ∷ s) → at h i ≡ Some e → (p : ℕ) (d : Event C)
        → at (arranged h s) p ≡ Some d → T (conflicts k d e) → T (before (e ∷ arranged h s) p (length (arranged h s)))
    mark_before i s e P a p d b y =
        let (j, m, q, c) = pos_find h s P.3 p d b in
        let g = arranged h s in
        let apart : i ≡ j → ⊥ = λ z. P.1 (mem_swap j i s (sym z) m) in
        let after : i < j → HappensBefore h i j =
        λ lt. before_of h i j (clean_ordered l h cl i j e d lt a c (conflicts_sym k d e y)) in
        let lt : j < i = part_early h i s P j m after in
        let first : HappensBefore h j i = before_of h j i (clean_ordered l h cl j i d e lt c a y) in
        let moved : HappensBefore (arranged h (i ∷ s)) (pos (i ∷ s) j) (pos (i ∷ s) i) =
        transfer k h (clean_sound k l h cl) (i ∷ s) P j i (mem_head i s) first in
        let here : HappensBefore (e ∷ g) (pos (i ∷ s) j) (pos (i ∷ s) i) =
        subst (λ x. HappensBefore x (pos (i ∷ s) j) (pos (i ∷ s) i)) (arranged_cons h i s e a) moved in
        let one : HappensBefore (e ∷ g) p (pos (i ∷ s) i) =
        subst (λ x. HappensBefore (e ∷ g) x (pos (i ∷ s) i)) (pos_there i j s apart ∙ q) here in
        let two : HappensBefore (e ∷ g) p (length g) =
        subst (λ x. HappensBefore (e ∷ g) p x) (pos_here i s ∙ sym (length_arranged h s P.3)) one in
        before_in (e ∷ g) p (length g) two

    -- an event is taken, with no race, on every part that holds all that is before it
    taken_on_part : (i : ℕ) (s : List ℕ) (e : Event C) → Part h (i ∷ s) → at h i ≡ Some e → judge k l (arranged h s) e ≡ taken None
    taken_on_part i s e P a =
        passes_clean k l (arranged h s) e (no_race k (arranged h s) e (mark_before i s e P a))
        (first_passes k l h cl i s P e a) (kind_passes k l h cl i s P e a)

    clean_part : (s : List ℕ) → Part h s → Clean k l (arranged h s)
    clean_part [] P = tt
    clean_part (i ∷ s) P = grind (arith, nat_tests, clean_part s, at_some, arranged_cons, taken_on_part)

  pub clean_any_order : (l : Limits) (h : Past C) → Clean k l h → (o : List ℕ) → Legal h o → Clean k l (arranged h o)
  clean_any_order l h cl o L = clean_part l h cl o (part_of_legal h o L)
