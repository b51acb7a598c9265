-- One event moves a cell's reads only by a read or a write of that cell: a write leaves none, and a read takes the place of the left
-- one, or of the right one, exactly when the two steps say so.
use Rattle.std.proofs.lemmas.Bool.Decides.{nat_tests}
use Rattle.std.proofs.Common.{◌≡◌, ℕ, ◌<◌, Bool, cond, not, ◌||◌, T, ◌⊎◌, [], ◌∷◌, length, Some, None, Option, sym, refl, ap, ◌∙◌, subst, subst₂, inl, inr, arith, T_not}
use lib.Dec.{not_T}
use Rattle.model.specs.declared.Event.{Event}
use Rattle.model.specs.declared.Event.TheVariants.{Read, Write}
use Rattle.model.specs.Lists.{any, keep, mem, first_in, last_in}
use Rattle.model.specs.Past.{Past}
use Rattle.model.specs.Before.{before, serial}
use Rattle.model.specs.Accesses.{CellKind, accesses}
use Rattle.model.specs.Cells.{reads_since, unordered_reads, left_read, right_read}
use Rattle.model.specs.Orders.{Order, at_or_after}
use Rattle.model.specs.Readers.{moves_left, moves_right}
use Rattle.model.specs.Reached.{Reached, OrderLaws}
use Rattle.model.specs.Link.{order_of, step_now, step_at}
use Rattle.model.proofs.Shelf.Lists.{any_of, any_in, mem_head, mem_tail, mem_of, keep_in, keep_of, any_same, keep_same, keep_none}
use Rattle.model.proofs.Shelf.Places.{at_lt}
use Rattle.model.proofs.Shelf.Befores.{before_old, before_lt}
use Rattle.model.proofs.Linking.Sound.{Sound}
use Rattle.model.proofs.Linking.PlaceSteps.{now_lt}
use Rattle.model.proofs.Linking.Steps
use Rattle.model.proofs.Linking.Steps.{upto_case, upto_refl}
use Rattle.model.proofs.Linking.Words.{at_keeper}
use Rattle.model.proofs.Linking.DoneOn
use Rattle.model.proofs.Linking.DoneOn.{done_on_old, done_on_lt}
use Rattle.model.proofs.Linking.Subtree.{earlier_up}
use Rattle.model.proofs.Linking.Access.{step_at_top, step_at_old, step_now_is}
use Rattle.model.proofs.Linking.Serial
use Rattle.model.proofs.Linking.Serial.{serially_trans}
use Rattle.model.proofs.Linking.Edges.{is_unordered, unordered_lt, Edge, edge_same, Ahead, Behind, left_edge, right_edge}
use Rattle.model.proofs.Linking.Marks.{is_latest, unordered_before, unordered_since, unordered_steps, between_one, access_upto, upto_access}
use Rattle.model.proofs.Linking.Marks.{reads_access}
use Rattle.model.proofs.Orderings.Races.{reads_since_of, unordered_of}

module _ {C : Type 0} (k : CellKind C) (lim : ℕ) where
  -- the step of a place that the specs tell is the one that its event was done on
  pub step_done_on : (h : Past C) → Sound k h → (i : ℕ) → i < length h → step_at h i ≡ DoneOn.done_on k lim h i
  step_done_on [] s i l = absurd (omega arith)
  step_done_on (e ∷ h) s i l = grind (arith, nat_tests, step_done_on h, step_at_top, step_now_is, step_at_old, done_on_old)

-- the marks that an implementation keeps, by steps
module _ {C : Type 0} (lim : ℕ) where
  -- the left mark after a read by t on the past h
  abbrev pub next_left : Past C → ℕ → Option ℕ → Option ℕ
  next_left h t None = Some (length h)
  next_left h t (Some a) = cond (moves_left (order_of lim h) (step_now h t) (step_at h a)) (Some (length h)) (Some a)

  -- the right mark
  abbrev pub next_right : Past C → ℕ → Option ℕ → Option ℕ
  next_right h t None = Some (length h)
  next_right h t (Some a) = cond (moves_right (order_of lim h) (step_now h t) (step_at h a)) (Some (length h)) (Some a)

module _ {C : Type 0} (k : CellKind C) (lim : ℕ) (laws : (limit : ℕ) (m : Order) → Reached limit m → OrderLaws m) where
  open at_keeper k lim use {keeper, now, done_on, Upto, StepEarlier}

  -- the laws of the order after a past
  abbrev law : (h : Past C) → Sound k h → OrderLaws (keeper h)
  law h s = Steps.law k lim laws h s

  -- serial order of places
  abbrev Serially : Past C → ℕ → ℕ → Type 0
  Serially h x y = Serial.Serially k lim laws h x y

  -- what is earlier in serial order stays so
  serially_up : (h : Past C) (e : Event C) → Sound k (e ∷ h) → (x y : ℕ) → x < length h → y < length h
      → Serially h x y → Serially (e ∷ h) x y
  serially_up h e s x y lx ly (inl p) = grind (arith, earlier_up k lim laws)
  serially_up h e s x y lx ly (inr p) = inr (done_on_old k lim h e x lx ∙ (p.0 ∙ sym (done_on_old k lim h e y ly)), p.1)

  -- a read joins the reads since the last write
  since_more : (h : Past C) (t : ℕ) (c : C) → reads_since k (Read t c ∷ h) c ≡ length h ∷ reads_since k h c
  since_more h t c = grind arith

  -- an event that does not access a cell leaves its unordered reads
  since_other : (h : Past C) (e : Event C) (c : C) → (T (accesses k c e) → ⊥) → reads_since k (e ∷ h) c ≡ reads_since k h c
  since_other h e c n = grind arith

  unordered_other : (h : Past C) (e : Event C) (c : C) → (T (accesses k c e) → ⊥) → unordered_reads k (e ∷ h) c ≡ unordered_reads k h c
  unordered_other h e c n =
      ap (λ l. keep (λ i. not (any (before (e ∷ h) i) l)) l) (since_other h e c n)
      ∙ keep_same (λ i. not (any (before (e ∷ h) i) (reads_since k h c))) (is_latest k h c) (reads_since k h c) (λ i m.
      ap not (any_same (before (e ∷ h) i) (before h i) (reads_since k h c) (λ x mx.
      let d = reads_since_of k h c x mx in before_old h e i x (at_lt h x d.0 d.1))))

  -- and so its marks
  pub left_other : (h : Past C) (e : Event C) (c : C) → Sound k (e ∷ h) → (T (accesses k c e) → ⊥)
      → left_read k (e ∷ h) c ≡ left_read k h c
  left_other h e c s n =
      edge_same k h (e ∷ h) c (left_read k h c) (left_read k (e ∷ h) c)
      (left_edge k lim laws h s.1 c) (left_edge k lim laws (e ∷ h) s c) (unordered_other h e c n) (λ i j mi mj r.
      serially_up h e s i j (unordered_lt k h c i mi) (unordered_lt k h c j mj) r)

  pub right_other : (h : Past C) (e : Event C) (c : C) → Sound k (e ∷ h) → (T (accesses k c e) → ⊥)
      → right_read k (e ∷ h) c ≡ right_read k h c
  right_other h e c s n =
      edge_same k h (e ∷ h) c (right_read k h c) (right_read k (e ∷ h) c)
      (right_edge k lim laws h s.1 c) (right_edge k lim laws (e ∷ h) s c) (unordered_other h e c n) (λ i j mi mj r.
      serially_up h e s j i (unordered_lt k h c j mj) (unordered_lt k h c i mi) r)

  -- a read of c by the task t
  module _ (h : Past C) (t : ℕ) (c : C) (s : Sound k (Read t c ∷ h)) where
    -- the past after it
    abbrev h' : Past C
    h' = Read t c ∷ h

    -- the step of the read
    abbrev here : ℕ
    here = now h t

    -- the unordered reads after it: the read itself, and those that are not before it
    unordered_top : T (is_unordered k h' c (length h))
    unordered_top =
        keep_in (is_latest k h' c) (reads_since k h' c) (length h)
        (subst (λ l. T (mem (length h) l)) (sym (since_more h t c)) (mem_head (length h) (reads_since k h c)))
        (not_T (any (before h' (length h)) (reads_since k h' c)) (λ a.
        let r = any_of (before h' (length h)) (reads_since k h' c) a in
        let b = before_lt h' (length h) r.0 r.2 in omega arith))

    unordered_old : (j : ℕ) → T (is_unordered k h c j) → (T (before h' j (length h)) → ⊥) → T (is_unordered k h' c j)
    unordered_old j m n =
        keep_in (is_latest k h' c) (reads_since k h' c) j
        (subst (λ l. T (mem j l)) (sym (since_more h t c)) (mem_tail j (length h) (reads_since k h c) (unordered_since k h c j m)))
        (not_T (any (before h' j) (reads_since k h' c)) (λ a.
        let r = any_of (before h' j) (reads_since k h' c) a in
        elim (mem_of r.0 (length h) (reads_since k h c) (subst (λ l. T (mem r.0 l)) (since_more h t c) r.1)) [
          | inl p ↦ n (subst (λ x. T (before h' j x)) p r.2)
          | inr q ↦ (
              let d = reads_since_of k h c r.0 q in
              unordered_before k h c j r.0 m q (subst T (before_old h (Read t c) j r.0 (at_lt h r.0 d.0 d.1)) r.2))
        ]))

    unordered_cases : (j : ℕ) → T (is_unordered k h' c j) → (j ≡ length h) ⊎ (T (is_unordered k h c j) × (T (before h' j (length h)) → ⊥))
    unordered_cases j m =
        let p = keep_of (is_latest k h' c) (reads_since k h' c) j m in
        let no_later : T (any (before h' j) (reads_since k h' c)) → ⊥ = T_not (any (before h' j) (reads_since k h' c)) p.1 in
        elim (mem_of j (length h) (reads_since k h c) (subst (λ l. T (mem j l)) (since_more h t c) p.0)) [
          | inl q ↦ inl q
          | inr q ↦ inr (
            keep_in (is_latest k h c) (reads_since k h c) j q (not_T (any (before h j) (reads_since k h c)) (λ a.
                let r = any_of (before h j) (reads_since k h c) a in
                let b = before_lt h j r.0 r.2 in
                no_later (any_in (before h' j) (reads_since k h' c) r.0
                (subst (λ l. T (mem r.0 l)) (sym (since_more h t c)) (mem_tail r.0 (length h) (reads_since k h c) r.1))
                (subst T (sym (before_old h (Read t c) j r.0 b.1)) r.2)))),
            λ b. no_later (any_in (before h' j) (reads_since k h' c) (length h)
                (subst (λ l. T (mem (length h) l)) (sym (since_more h t c)) (mem_head (length h) (reads_since k h c))) b),
          )
        ]

    -- an unordered read is before it if its step is up to the read's, and the other way round
    before_of : (j : ℕ) → T (is_unordered k h c j) → Upto h (done_on h j) here → T (before h' j (length h))
    before_of j m u = grind (arith, nat_tests, unordered_of k h c, upto_access k lim laws h, reads_access k c)

    of_before : (j : ℕ) → T (is_unordered k h c j) → T (before h' j (length h)) → Upto h (done_on h j) here
    of_before j m b =
        let d = unordered_of k h c j m in
        access_upto k lim laws h (Read t c) s.1 tt j d.0 d.1 (reads_access k c d.0 d.2) b

    -- the read itself in serial order
    done_on_top : done_on h' (length h) ≡ here
    done_on_top = grind arith

    serially_top : (j : ℕ) → j < length h → StepEarlier h (done_on h j) here → Serially h' j (length h)
    serially_top j l b = inl (subst₂ (StepEarlier h) (sym (done_on_old k lim h (Read t c) j l)) (sym done_on_top) b)

    top_serially : (j : ℕ) → j < length h → StepEarlier h here (done_on h j) → Serially h' (length h) j
    top_serially j l b = inl (subst₂ (StepEarlier h) (sym done_on_top) (sym (done_on_old k lim h (Read t c) j l)) b)

    upto_top : (j : ℕ) → j < length h → Upto h (done_on h j) here → Serially h' j (length h)
    upto_top j l u = grind (arith, nat_tests, done_on_top, serially_top, law)

    -- a read that is not up to it is earlier or later
    split : (j : ℕ) → T (is_unordered k h c j) → (Upto h (done_on h j) here → ⊥)
        → StepEarlier h (done_on h j) here ⊎ StepEarlier h here (done_on h j)
    split j m n =
        (law h s.1).earlier_total (done_on h j) here (done_on_lt k lim h j (unordered_lt k h c j m)) (now_lt k lim h t)
        (λ p. n (upto_refl k lim laws h (done_on h j) here p))

    -- an edge ahead of the read and after it: by R, then by R'
    record EdgeMove (R R' : ℕ → ℕ → Type 0) (o o' : Option ℕ) : Type 0 where
      old : Edge k R h c o
      new : Edge k R' h' c o'
      up : (i j : ℕ) → i < length h → j < length h → R i j → R' i j
      trans : (x y z : ℕ) → R' x y → R' y z → R' x z

    module _ {R R' : ℕ → ℕ → Type 0} {o o' : Option ℕ} (move : EdgeMove R R' o o') where
      -- the read is the edge where there was none
      edge_first : o ≡ None → o' ≡ Some (length h)
      edge_first q = move.new.some_in (length h) (
        unordered_top,
        λ j m. elim (unordered_cases j m) [
          | inl p ↦ inl (sym p)
          | inr r ↦ absurd (move.old.none_of q j r.0)
        ],
      )

      -- the edge stays if it is not up to the read, and ahead of it by R'
      edge_keep : (a : ℕ) → o ≡ Some a → (Upto h (done_on h a) here → ⊥) → R' a (length h) → o' ≡ Some a
      edge_keep a q n w =
          let f = move.old.some_of a q in
          let la = unordered_lt k h c a f.0 in
          move.new.some_in a (
            unordered_old a f.0 (λ b. n (of_before a f.0 b)),
            λ j m. elim (unordered_cases j m) [
              | inl p ↦ inr (subst (R' a) (sym p) w)
              | inr r ↦ elim (f.1 j r.0) [ inl p ↦ inl p | inr z ↦ inr (move.up a j la (unordered_lt k h c j r.0) z) ]
            ],
          )

      -- the read is the edge if it is ahead of the one before
      edge_new : (a : ℕ) → o ≡ Some a → R' (length h) a → o' ≡ Some (length h)
      edge_new a q w =
          let f = move.old.some_of a q in
          let la = unordered_lt k h c a f.0 in
          move.new.some_in (length h) (
            unordered_top,
            λ j m. elim (unordered_cases j m) [
              | inl p ↦ inl (sym p)
              | inr r ↦ inr (elim (f.1 j r.0) [
                | inl p ↦ subst (R' (length h)) p w
                | inr z ↦ move.trans (length h) a j w (move.up a j la (unordered_lt k h c j r.0) z)
              ])
            ],
          )

      -- so it moves by steps alone, where a test of two steps tells R' of the read and the edge
      edge_next : (test : ℕ → ℕ → Bool) (a : ℕ) → o ≡ Some a
          → (Upto h (done_on h a) here → o' ≡ Some (length h))
          → (T (test here (done_on h a)) → R' (length h) a)
          → ((Upto h (done_on h a) here → ⊥) → (T (test here (done_on h a)) → ⊥) → R' a (length h))
          → o' ≡ cond (at_or_after (order_of lim h) (step_now h t) (step_at h a) || test (step_now h t) (step_at h a))
          (Some (length h)) (Some a)
      edge_next test a q on moves else =
          let x = step_at h a in
          let y = step_now h t in
          let sx = step_done_on k lim h s.1 a (unordered_lt k h c a (move.old.some_of a q).0) in
          let sy = step_now_is k lim h s.1 t s.0.is_known in
          let up = at_or_after (order_of lim h) y x in
          grind (arith, nat_tests, edge_keep, moves, edge_new)

    -- both marks are edges
    left_move : EdgeMove (Ahead k lim laws h) (Ahead k lim laws h') (left_read k h c) (left_read k h' c)
    left_move =
        record {
          old = left_edge k lim laws h s.1 c;
          new = left_edge k lim laws h' s c;
          up = serially_up h (Read t c) s;
          trans = serially_trans k lim laws h' s;
        }

    right_move : EdgeMove (Behind k lim laws h) (Behind k lim laws h') (right_read k h c) (right_read k h' c)
    right_move =
        record {
          old = right_edge k lim laws h s.1 c;
          new = right_edge k lim laws h' s c;
          up = λ i j li lj r. serially_up h (Read t c) s j i lj li r;
          trans = λ x y z p q. serially_trans k lim laws h' s z y x q p;
        }

    -- where the left mark is up to the read, the read is the first of what is left
    left_up : (a : ℕ) → left_read k h c ≡ Some a → Upto h (done_on h a) here → left_read k h' c ≡ Some (length h)
    left_up a q u = left_move.new.some_in (length h) (
      unordered_top,
      λ j m. elim (unordered_cases j m) [
        | inl p ↦ inl (sym p)
        | inr r ↦ (
            let f = left_move.old.some_of a q in
            let not_up : Upto h (done_on h j) here → ⊥ = λ z. r.1 (before_of j r.0 z) in
            inr (elim (split j r.0 not_up) [
              | inr w ↦ top_serially j (unordered_lt k h c j r.0) w
              | inl w ↦ (
                  let apart = unordered_steps k lim laws h s.1 c a j f.0 r.0 in
                  absurd (not_up (between_one k lim laws h s.1 here a j apart (f.1 j r.0) u w)))
            ]))
      ],
    )

    left_go : (o : Option ℕ) → left_read k h c ≡ o → left_read k h' c ≡ next_left lim h t o
    left_go None q = edge_first left_move q
    left_go (Some a) q =
        let m = (left_move.old.some_of a q).0 in
        let la = unordered_lt k h c a m in
        edge_next left_move (keeper h).earlier a q (left_up a q) (top_serially a la) (λ n w. elim (split a m n) [
          | inl z ↦ serially_top a la z
          | inr z ↦ absurd (w z)
        ])

    right_go : (o : Option ℕ) → right_read k h c ≡ o → right_read k h' c ≡ next_right lim h t o
    right_go None q = edge_first right_move q
    right_go (Some a) q =
        let m = (right_move.old.some_of a q).0 in
        let la = unordered_lt k h c a m in
        edge_next right_move (λ x y. (keeper h).earlier y x) a q
        (λ u. edge_new right_move a q (upto_top a la u)) (serially_top a la) (λ n w. elim (split a m n) [
          | inl z ↦ absurd (w z)
          | inr z ↦ top_serially a la z
        ])

    -- a read moves the marks of its cell by steps alone
    pub left_after_read : left_read k (Read t c ∷ h) c ≡ next_left lim h t (left_read k h c)
    left_after_read = left_go (left_read k h c) refl

    pub right_after_read : right_read k (Read t c ∷ h) c ≡ next_right lim h t (right_read k h c)
    right_after_read = right_go (right_read k h c) refl

-- a write leaves no read
module _ {C : Type 0} (k : CellKind C) where
  unordered_write : (h : Past C) (t : ℕ) (c : C) → unordered_reads k (Write t c ∷ h) c ≡ []
  unordered_write h t c = grind arith

  kept_write : (h : Past C) (t : ℕ) (c : C) → keep (is_unordered k (Write t c ∷ h) c) (serial (Write t c ∷ h)) ≡ []
  kept_write h t c = grind (arith, nat_tests, keep_none)

  pub left_after_write : (h : Past C) (t : ℕ) (c : C) → left_read k (Write t c ∷ h) c ≡ None
  left_after_write h t c = ap first_in (kept_write h t c)

  pub right_after_write : (h : Past C) (t : ℕ) (c : C) → right_read k (Write t c ∷ h) c ≡ None
  right_after_write h t c = ap last_in (kept_write h t c)
