-- Every read is before, or is, one that is before no other; `between` then carries what holds of the leftmost and the rightmost to it.
use Rattle.std.proofs.lemmas.Bool.Decides.{nat_tests}
use Rattle.std.proofs.Common.{◌≡◌, ℕ, ◌<◌, Bool, cond, ◌||◌, T, ◌⊎◌, List, [], ◌∷◌, sym, refl, subst, inl, inr, arith}
use Rattle.model.specs.Lists.{mem}
use Rattle.model.specs.Orders.{Order, at_or_after}
use Rattle.model.specs.Reached.{OrderLaws}
use Rattle.model.specs.Readers.{Latest, Leftmost, Rightmost, Held, TwoSuffice, left_with, right_with, TwoKept}
use Rattle.model.proofs.Shelf.Tests.{cond_no, cond_yes, tried}
use Rattle.model.proofs.Shelf.Lists.{mem_head, mem_of}
use Rattle.model.proofs.TwoFound.{First, later, later_trans, later_total}

-- a step that x is or is before, and that is before none of rs
abbrev Peak : Order → List ℕ → ℕ → Type 0
Peak m rs x = (y : ℕ) × T (mem y (x ∷ rs)) × T (at_or_after m y x) × ((z : ℕ) → T (mem z rs) → T (m.before y z) → ⊥)

-- the step s is before no step
abbrev BeforeNone : Order → ℕ → Type 0
BeforeNone m s = (b : ℕ) → T (m.before s b) → ⊥

module _ (m : Order) where
  at_case : (s a : ℕ) → T (at_or_after m s a) → (a ≡ s) ⊎ T (m.before a s)
  at_case s a h = grind arith

  at_same : (s a : ℕ) → a ≡ s → T (at_or_after m s a)
  at_same s a e = grind arith

  at_before : (s a : ℕ) → T (m.before a s) → T (at_or_after m s a)
  at_before s a b = grind arith

  -- one more read, on the step s
  latest_new : (rs : List ℕ) (s : ℕ) → BeforeNone m s → Latest m (s ∷ rs) s
  latest_new rs s tip = grind arith

  -- a read that is not before it, and was before no other, stays so
  latest_old : (rs : List ℕ) (s x : ℕ) → Latest m rs x → (T (m.before x s) → ⊥) → Latest m (s ∷ rs) x
  latest_old rs s x (i, n) nb = grind arith

  latest_case : (rs : List ℕ) (s x : ℕ) → Latest m (s ∷ rs) x → (x ≡ s) ⊎ (Latest m rs x × (T (m.before x s) → ⊥))
  latest_case rs s x (i, n) = grind arith

module _ (m : Order) (laws : OrderLaws m) where
  before_irrefl : (a : ℕ) → T (m.before a a) → ⊥
  before_irrefl a b = laws.earlier_irrefl a (laws.before_earlier a a b)

  -- what comes after y comes after each that y is or comes after
  at_then : (x y z : ℕ) → T (at_or_after m y x) → T (m.before y z) → T (m.before x z)
  at_then x y z h b = grind arith

  at_trans : (x y z : ℕ) → T (at_or_after m y x) → T (at_or_after m z y) → T (at_or_after m z x)
  at_trans x y z h k = grind arith

  earlier_at : (x r s : ℕ) → T (m.earlier x r) → T (at_or_after m s r) → T (m.earlier x s)
  earlier_at x r s h k = grind arith

  -- x is before z: the peak over z is one over x
  peak_step : (x z : ℕ) (rs : List ℕ) → T (m.before x z) → Peak m rs z → Peak m (z ∷ rs) x
  peak_step x z rs b (y, i, h, n) = grind (arith, nat_tests, at_case m)

  -- x is not before z: the peak stays
  peak_stay : (x z : ℕ) (rs : List ℕ) → (T (m.before x z) → ⊥) → Peak m rs x → Peak m (z ∷ rs) x
  peak_stay x z rs nb (y, i, h, n) = grind arith

  peak_of : (rs : List ℕ) (x : ℕ) → Peak m rs x
  peak_of [] x = (x, mem_head x [], at_same m x x refl, λ z i b. absurd i)
  peak_of (z ∷ rs) x = elim (tried (m.before x z)) [
    | inl b ↦ peak_step x z rs b (peak_of rs z)
    | inr n ↦ peak_stay x z rs n (peak_of rs x)
  ]

  latest_above : (rs : List ℕ) (x : ℕ) → T (mem x rs) → (y : ℕ) × Latest m rs y × T (at_or_after m y x)
  latest_above rs x i = let p = peak_of rs x in (p.0, (inside p.0 (mem_of p.0 x rs p.1), p.3), p.2)
    where
      inside : (y : ℕ) → (y ≡ x) ⊎ T (mem y rs) → T (mem y rs)
      inside y (inl e) = subst (λ w. T (mem w rs)) (sym e) i
      inside y (inr k) = k

  -- what comes after the leftmost and the rightmost comes after each that is before no other
  latest_after : (rs : List ℕ) (l r s : ℕ) → Leftmost m rs l → Rightmost m rs r
      → T (at_or_after m s l) → T (at_or_after m s r) → (y : ℕ) → Latest m rs y → T (at_or_after m s y)
  latest_after rs l r s left right hl hr y top = go (left.1 y top) (right.1 y top) (at_case m s l hl)
    where
      go : (y ≡ l) ⊎ T (m.earlier l y) → (y ≡ r) ⊎ T (m.earlier y r) → (l ≡ s) ⊎ T (m.before l s) → T (at_or_after m s y)
      go (inl e) _ _ = subst (λ w. T (at_or_after m s w)) (sym e) hl
      go (inr a) (inl e) _ = subst (λ w. T (at_or_after m s w)) (sym e) hr
      go (inr a) (inr b) (inl e) = grind arith
      go (inr a) (inr b) (inr c) = at_before m s y (laws.between l y s a (earlier_at y r s b hr) (left.0.1 y top.0) c)

  pub two_suffice : TwoSuffice m
  two_suffice rs l r s left right hl hr x i =
      let p = latest_above rs x i in
      grind (arith, nat_tests, at_trans, latest_after)

  -- one more read, on the step s: who is foremost then, by serial order or by its converse
  module _ (ahead : ℕ → ℕ → Bool) (ahead_trans : (a b c : ℕ) → T (ahead a b) → T (ahead b c) → T (ahead a c))
      (ahead_total : (a b : ℕ) → a < m.steps → b < m.steps → (a ≡ b → ⊥) → T (ahead a b) ⊎ T (ahead b a))
      (rs : List ℕ) (e s : ℕ) (foremost : First ahead (Latest m rs) e) where
    -- s takes the place of e; `passed` is for what e was ahead of while e is before s
    moves : BeforeNone m s
        → ((x : ℕ) → Latest m rs x → (T (m.before x s) → ⊥) → T (ahead e x) → T (m.before e s) → (x ≡ s) ⊎ T (ahead s x))
        → T (at_or_after m s e || ahead s e) → First ahead (Latest m (s ∷ rs)) s
    moves tip passed h = grind (arith, nat_tests, latest_new m rs s, latest_case m rs s, ahead_trans s e)

    -- e stays
    stays : Held m rs → s < m.steps → (T (at_or_after m s e || ahead s e) → ⊥) → First ahead (Latest m (s ∷ rs)) e
    stays held s_held n = grind (arith, nat_tests)
      where
        not_at : T (at_or_after m s e) → ⊥
        not_at k = grind arith

        still_ahead : T (ahead e s)
        still_ahead = grind arith

        old : (x : ℕ) → (x ≡ s) ⊎ (Latest m rs x × (T (m.before x s) → ⊥)) → (x ≡ e) ⊎ T (ahead e x)
        old x (inl i) = inr (subst (λ w. T (ahead e w)) (sym i) still_ahead)
        old x (inr (top, nb)) = foremost.1 x top

    foremost_kept : Held m rs → BeforeNone m s → s < m.steps
        → ((x : ℕ) → Latest m rs x → (T (m.before x s) → ⊥) → T (ahead e x) → T (m.before e s) → (x ≡ s) ⊎ T (ahead s x))
        → First ahead (Latest m (s ∷ rs)) (cond (at_or_after m s e || ahead s e) s e)
    foremost_kept held tip s_held passed = elim (tried (at_or_after m s e || ahead s e)) [
      | inl h ↦ subst (First ahead (Latest m (s ∷ rs))) (sym (cond_yes (at_or_after m s e || ahead s e) s e h)) (moves tip passed h)
      | inr n ↦ subst (First ahead (Latest m (s ∷ rs))) (sym (cond_no (at_or_after m s e || ahead s e) s e n)) (stays held s_held n)
    ]

  left_kept : (rs : List ℕ) (l s : ℕ) → Leftmost m rs l → Held m rs → BeforeNone m s → s < m.steps
      → Leftmost m (s ∷ rs) (left_with m s l)
  left_kept rs l s left held tip s_held =
      foremost_kept m.earlier laws.earlier_trans laws.earlier_total rs l s left held tip s_held passed
    where
      -- x, later than l and no later than s, would be before s as l is
      passed : (x : ℕ) → Latest m rs x → (T (m.before x s) → ⊥) → T (m.earlier l x) → T (m.before l s) → (x ≡ s) ⊎ T (m.earlier s x)
      passed x top nb a b = grind arith

  right_kept : (rs : List ℕ) (r s : ℕ) → Rightmost m rs r → Held m rs → BeforeNone m s → s < m.steps
      → Rightmost m (s ∷ rs) (right_with m s r)
  right_kept rs r s right held tip s_held =
      foremost_kept (later m laws) (later_trans m laws) (later_total m laws) rs r s right held tip s_held
      (λ x top nb a b. inr (laws.earlier_trans x r s a (laws.before_earlier r s b)))

  pub two_kept : TwoKept m
  two_kept rs l r t held left right run =
      let s : ℕ = (m.task t).current in
      let s_held : s < m.steps = laws.current_held t run in
      let tip : BeforeNone m s = λ b h. laws.current_last t b run h in
      (left_kept rs l s left held tip s_held, right_kept rs r s right held tip s_held)
