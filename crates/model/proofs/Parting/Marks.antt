-- The history of a cell moves as its definition says: a mark stays the same mark, since its step does not change later.
use Rattle.std.proofs.lemmas.Bool.Decides.{nat_tests}
use Rattle.std.proofs.Common.{◌≡◌, ℕ, ◌<◌, Bool, true, false, cond, T, ◌∷◌, length, Some, None, Option, sym, refl, ap, ◌∙◌, arith}
use Rattle.model.specs.declared.Event.{Event}
use Rattle.model.specs.declared.Event.TheVariants.{Read, Write}
use Rattle.model.specs.declared.Mark.{Mark}
use Rattle.model.specs.Past.{Past, actor}
use Rattle.model.specs.Accesses.{CellKind, reads, writes, accesses}
use Rattle.model.specs.Cells.{last_write, left_read, right_read}
use Rattle.model.specs.Orders.{Order}
use Rattle.model.specs.Readers.{moves_left, moves_right}
use Rattle.model.specs.Link.{order_of, number, step_now, step_at}
use Rattle.model.specs.Parts.{mark_at, history_of, new_left, new_right, after_read, after_write}
use Rattle.model.proofs.Shelf.Tests.{or_r, cond_yes, cond_no}
use Rattle.model.proofs.Shelf.Places.{at_lt}
use Rattle.model.proofs.Linking.Sound.{Known, Sound}
use Rattle.model.proofs.Linking.PlaceSteps.{current_is, now_lt}
use Rattle.model.proofs.Linking.Access.{limit_free}
use Rattle.model.proofs.Linking.Next.{step_done_on, next_left, next_right, left_other, right_other}
use Rattle.model.proofs.Linking.Next.{left_after_read, right_after_read, left_after_write, right_after_write}
use Rattle.model.proofs.Trees.Reached.{reached_laws}
use Rattle.model.proofs.Parting.Words.{history_ext, mark_step}
use Rattle.model.proofs.Parting.Cells.{Accessed, write_place, left_place, right_place}
use Rattle.model.proofs.Linking.DoneOn.{done_on_lt}

-- what F makes of one of two
pushed : {A B : Type 0} (F : A → Option B) (b : Bool) (x y : A) (u v : B) → F x ≡ Some u → F y ≡ Some v → F (cond b x y) ≡ Some (cond b u v)
pushed F true x y u v p q = p
pushed F false x y u v p q = q

module _ {C : Type 0} (k : CellKind C) (lim : ℕ) where
  -- the order that the keeper means
  abbrev mo : Past C → Order
  mo h = order_of lim h

  -- the step that a task is on
  abbrev cur : Past C → ℕ → ℕ
  cur h t = ((order_of lim h).task (number h t)).current

  pub step_now_cur : (h : Past C) (t : ℕ) → step_now h t ≡ cur h t
  step_now_cur h t = ap (λ (m : Order). (m.task (number h t)).current) (sym (limit_free lim h))

  -- the marks so far stay
  mark_old : (h : Past C) (e : Event C) (o : Option ℕ) → ((i : ℕ) → o ≡ Some i → Accessed k h i) → mark_at (e ∷ h) o ≡ mark_at h o
  mark_old h e None f = refl
  mark_old h e (Some i) f =
      let r = f i refl in grind (arith, nat_tests, at_lt)

  -- the mark of the event itself
  mark_top : (h : Past C) (e : Event C) → mark_at (e ∷ h) (Some (length h)) ≡ Some (record { step = cur h (actor e); place = length h })
  mark_top h e = grind (arith, nat_tests, step_now_cur, mark_step)

  pub history_other : (h : Past C) (e : Event C) (j : C)
      → Sound k (e ∷ h) → (T (accesses k j e) → ⊥) → history_of k (e ∷ h) j ≡ history_of k h j
  history_other h e j s n =
      history_ext (history_of k (e ∷ h) j) (history_of k h j)
      (ap (mark_at (e ∷ h)) (cond_no (writes k j e) (Some (length h)) (last_write k h j) (λ z. n (or_r (reads k j e) (writes k j e) z)))
      ∙ mark_old h e (last_write k h j) (write_place k h j))
      (ap (mark_at (e ∷ h)) (left_other k lim reached_laws h e j s n) ∙ mark_old h e (left_read k h j) (left_place k h j))
      (ap (mark_at (e ∷ h)) (right_other k lim reached_laws h e j s n) ∙ mark_old h e (right_read k h j) (right_place k h j))

  -- the step of a place, and the step that a task is on, are held
  module _ (h : Past C) (s : Sound k h) where
    pub step_held : (i : ℕ) → i < length h → step_at h i < (mo h).steps
    step_held i b = let x = step_done_on k lim h s i b in let y = done_on_lt k lim h i b in omega arith

    pub cur_held : (t : ℕ) → Known k h t → cur h t < (mo h).steps
    cur_held t q = let x = current_is k lim h s t q in let y = now_lt k lim h t in omega arith

  module _ (h : Past C) (t : ℕ) (c : C) (s : Sound k (Read t c ∷ h)) where
    -- the order that the read finds
    abbrev m : Order
    m = mo h

    -- the step that the reader is on
    abbrev here : ℕ
    here = cur h t

    -- the mark of the read
    abbrev new : Mark
    new = record { step = here; place = length h }

    -- the mark that stood at a
    abbrev old : ℕ → Mark
    old a = record { step = step_at h a; place = a }

    -- the new mark or the old one, by a test of the reader's step
    moved : (a : ℕ) (test : ℕ → Bool) → ((i : ℕ) → Some a ≡ Some i → Accessed k h i)
        → mark_at (Read t c ∷ h) (cond (test (step_now h t)) (Some (length h)) (Some a)) ≡ Some (cond (test here) new (old a))
    moved a test f = grind (arith, nat_tests, step_now_cur, pushed, new, old, mark_top, mark_old)

    left_go : (o : Option ℕ) → ((i : ℕ) → o ≡ Some i → Accessed k h i)
        → mark_at (Read t c ∷ h) (next_left lim h t o) ≡ Some (new_left m here (length h) (mark_at h o))
    left_go None f = mark_top h (Read t c)
    left_go (Some a) f = moved a (λ y. moves_left m y (step_at h a)) f

    right_go : (o : Option ℕ) → ((i : ℕ) → o ≡ Some i → Accessed k h i)
        → mark_at (Read t c ∷ h) (next_right lim h t o) ≡ Some (new_right m here (length h) (mark_at h o))
    right_go None f = mark_top h (Read t c)
    right_go (Some a) f = moved a (λ y. moves_right m y (step_at h a)) f

    pub read_history : history_of k (Read t c ∷ h) c ≡ after_read m here (length h) (history_of k h c)
    read_history =
        history_ext (history_of k (Read t c ∷ h) c) (after_read m here (length h) (history_of k h c))
        (mark_old h (Read t c) (last_write k h c) (write_place k h c))
        (ap (mark_at (Read t c ∷ h)) (left_after_read k lim reached_laws h t c s) ∙ left_go (left_read k h c) (left_place k h c))
        (ap (mark_at (Read t c ∷ h)) (right_after_read k lim reached_laws h t c s) ∙ right_go (right_read k h c) (right_place k h c))

  pub write_history : (h : Past C) (t : ℕ) (c : C) → history_of k (Write t c ∷ h) c ≡ after_write (cur h t) (length h)
  write_history h t c =
      history_ext (history_of k (Write t c ∷ h) c) (after_write (cur h t) (length h))
      (ap (mark_at (Write t c ∷ h)) (cond_yes (k.same c c) (Some (length h)) (last_write k h c) (k.same_refl c)) ∙ mark_top h (Write t c))
      (ap (mark_at (Write t c ∷ h)) (left_after_write k h t c))
      (ap (mark_at (Write t c ∷ h)) (right_after_write k h t c))
