-- What a table of histories says of a cell, in the words of the rules.
use Rattle.std.proofs.Common.{◌≡◌, ℕ, not, ◌&&◌, T, leb, ◌∷◌, length, Some, None, Option, refl, ap, ◌∙◌, arith}
use Rattle.model.specs.declared.Event.{Event}
use Rattle.model.specs.declared.Event.TheVariants.{Read, Write}
use Rattle.model.specs.declared.RaceKind.{RaceKind}
use Rattle.model.specs.declared.RaceKind.TheVariants.{WriteRead, WriteWrite, ReadWrite}
use Rattle.model.specs.declared.Race.{Race}
use Rattle.model.specs.declared.History.{History}
use Rattle.model.specs.Past.{Past, at, actor}
use Rattle.model.specs.Before.{before}
use Rattle.model.specs.Accesses.{CellKind, reads, writes, accesses, is_access}
use Rattle.model.specs.Cells.{last_write, left_read, right_read, cell_held, cells_held}
use Rattle.model.specs.Rules.{Limits, race_with, race_of}
use Rattle.model.specs.Orders.{Order}
use Rattle.model.specs.Link.{order_of, number, step_at}
use Rattle.model.specs.Parts.{blank, parts_of, mark_at, history_of, history_in, after_mark, race_on, read_race, write_race, no_room}
use Rattle.model.proofs.Shelf.Tests.{T-ext}
use Rattle.model.proofs.Shelf.Places.{at_lt, at_any}
use Rattle.model.proofs.Linking.Sound.{Known, Sound}
use Rattle.model.proofs.Linking.PlaceSteps.{now, current_is, is_upto}
use Rattle.model.proofs.Linking.Next.{step_done_on}
use Rattle.model.proofs.Linking.Marks.{writes_access, reads_access, access_upto, upto_access}
use Rattle.model.proofs.Orderings.Races.{Stands, last_write_of, left_read_of, right_read_of}
use Rattle.model.proofs.Trees.Reached.{reached_laws}
use Rattle.model.proofs.Parting.Words.{history_ext}
use Rattle.model.proofs.Linking.DoneOn.{done_on}

module _ {C : Type 0} (k : CellKind C) where
  -- a place of an access that a mark can stand at
  abbrev pub Accessed : Past C → ℕ → Type 0
  Accessed h i = (d : Event C) × (at h i ≡ Some d) × T (is_access d)

  pub write_place : (h : Past C) (c : C) (i : ℕ) → last_write k h c ≡ Some i → Accessed h i
  write_place h c i q = let r = last_write_of k h c i q in (r.0, r.1, writes_access k c r.0 r.2)

  pub left_place : (h : Past C) (c : C) (i : ℕ) → left_read k h c ≡ Some i → Accessed h i
  left_place h c i q = let r = left_read_of k h c i q in (r.0, r.1, reads_access k c r.0 r.2)

  pub right_place : (h : Past C) (c : C) (i : ℕ) → right_read k h c ≡ Some i → Accessed h i
  right_place h c i q = let r = right_read_of k h c i q in (r.0, r.1, reads_access k c r.0 r.2)

  -- a cell that was never touched has no marks
  none_held : (h : Past C) (c : C) (o : Option ℕ)
      → ((i : ℕ) → o ≡ Some i → Stands k (accesses k) h c i) → (T (cell_held k h c) → ⊥) → o ≡ None
  none_held h c None f n = refl
  none_held h c (Some i) f n = let (d, q, t) = f i refl in absurd (n (at_any (accesses k c) h i d q t))

  by_write : (h : Past C) (c : C) (i : ℕ) → Stands k (writes k) h c i → Stands k (accesses k) h c i
  by_write h c i (d, q, t) = grind arith

  by_read : (h : Past C) (c : C) (i : ℕ) → Stands k (reads k) h c i → Stands k (accesses k) h c i
  by_read h c i (d, q, t) = grind arith

  blank_is : (h : Past C) (c : C) → (T (cell_held k h c) → ⊥) → history_of k h c ≡ blank
  blank_is h c n =
      history_ext (history_of k h c) blank
      (ap (mark_at h) (none_held h c (last_write k h c) (λ i q. by_write h c i (last_write_of k h c i q)) n))
      (ap (mark_at h) (none_held h c (left_read k h c) (λ i q. by_read h c i (left_read_of k h c i q)) n))
      (ap (mark_at h) (none_held h c (right_read k h c) (λ i q. by_read h c i (right_read_of k h c i q)) n))

  pub history_is : (l : Limits) (h : Past C) (c : C) → history_in (parts_of k l h).cells c ≡ history_of k h c
  history_is l h c = grind (arith, blank_is)

  -- there is no room for a cell where it was never touched and the table is full
  pub room_is : (l : Limits) (h : Past C) (c : C)
      → no_room (parts_of k l h).cells c ≡ (not (cell_held k h c) && leb l.cells (cells_held k h))
  room_is l h c = grind arith

  -- whether a mark is up to the next access, by steps
  module _ (lim : ℕ) (h : Past C) (e : Event C) (s : Sound k h) (q : Known k h (actor e)) (a : T (is_access e)) where
    -- the order that the keeper means
    abbrev mo : Order
    mo = order_of lim h

    -- the step that the task of e is on
    abbrev cur : ℕ
    cur = (mo.task (number h (actor e))).current

    in_order_is : (i : ℕ) → Accessed h i → after_mark mo cur (record { step = step_at h i; place = i }) ≡ before (e ∷ h) i (length h)
    in_order_is i r =
        ap (λ x. is_upto k lim h x cur) (step_done_on k lim h s i (at_lt h i r.0 r.1))
        ∙ (ap (is_upto k lim h (done_on k lim h i)) (current_is k lim h s (actor e) q)
        ∙ T-ext (is_upto k lim h (done_on k lim h i) (now k lim h (actor e))) (before (e ∷ h) i (length h))
        (upto_access k lim reached_laws h e s q i r.0 r.1 r.2) (access_upto k lim reached_laws h e s a i r.0 r.1 r.2))

    race_is : (kind : RaceKind) (c : C) (o : Option ℕ) (x y : Option (Race C)) → ((i : ℕ) → o ≡ Some i → Accessed h i) → x ≡ y
        → race_on kind mo cur (length h) c (mark_at h o) x ≡ race_with kind h e c o y
    race_is kind c None x y f p = p
    race_is kind c (Some i) x y f p = grind (arith, in_order_is)

  pub read_race_is : (l : Limits) (h : Past C) (t : ℕ) (c : C) → Sound k h → Known k h t
      → read_race (parts_of k l h) (number h t) c ≡ race_of k h (Read t c)
  read_race_is l h t c s q =
      let m = order_of l.steps h in
      ap (λ (x : History). race_on WriteRead m (m.task (number h t)).current (length h) c x.write None) (history_is l h c)
      ∙ race_is l.steps h (Read t c) s q tt WriteRead c (last_write k h c) None None (write_place h c) refl

  pub write_race_is : (l : Limits) (h : Past C) (t : ℕ) (c : C) → Sound k h → Known k h t
      → write_race (parts_of k l h) (number h t) c ≡ race_of k h (Write t c)
  write_race_is l h t c s q =
      let m = order_of l.steps h in
      ap (λ (x : History). race_on WriteWrite m (m.task (number h t)).current (length h) c x.write
      (race_on ReadWrite m (m.task (number h t)).current (length h) c x.left
      (race_on ReadWrite m (m.task (number h t)).current (length h) c x.right None))) (history_is l h c)
      ∙ race_is l.steps h (Write t c) s q tt WriteWrite c (last_write k h c) _ _ (write_place h c)
      (race_is l.steps h (Write t c) s q tt ReadWrite c (left_read k h c) _ _ (left_place h c)
      (race_is l.steps h (Write t c) s q tt ReadWrite c (right_read k h c) None None (right_place h c) refl))
