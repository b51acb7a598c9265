-- The last of some steps in serial order is before none of them. A test keeps all that are so, and of these one is first and one is last.
use Rattle.std.proofs.lemmas.Bool.Decides.{nat_tests}
use Rattle.std.proofs.Common.{◌≡◌, ℕ, ◌<◌, Bool, not, T, ◌⊎◌, List, [], ◌∷◌, sym, arith}
use Rattle.model.specs.Lists.{any, keep, mem}
use Rattle.model.specs.Orders.{Order}
use Rattle.model.specs.Reached.{OrderLaws}
use Rattle.model.specs.Readers.{Latest, Held, TwoFound}
use Rattle.model.proofs.Shelf.Lists.{any_of, any_in, keep_of, keep_in}

-- of the steps of which P holds, e is ahead of the rest
abbrev pub First : (ℕ → ℕ → Bool) → (ℕ → Type 0) → ℕ → Type 0
First ahead P e = P e × ((x : ℕ) → P x → (x ≡ e) ⊎ T (ahead e x))

-- those of the steps xs that are before none of them
abbrev tops : Order → List ℕ → List ℕ
tops m xs = keep (λ x. not (any (m.before x) xs)) xs

module _ (m : Order) where
  top_latest : (xs : List ℕ) (x : ℕ) → T (mem x (tops m xs)) → Latest m xs x
  top_latest xs x i = grind (arith, keep_of (λ y. not (any (m.before y) xs)) xs, any_in)

  latest_top : (xs : List ℕ) (x : ℕ) → Latest m xs x → T (mem x (tops m xs))
  latest_top xs x top = grind (arith, keep_in, any_of (m.before x) xs)

  -- `ahead` is serial order or its converse
  module _ (ahead : ℕ → ℕ → Bool) (ahead_trans : (a b c : ℕ) → T (ahead a b) → T (ahead b c) → T (ahead a c))
      (ahead_total : (a b : ℕ) → a < m.steps → b < m.steps → (a ≡ b → ⊥) → T (ahead a b) ⊎ T (ahead b a)) where
    -- the first of xs is that of x and xs, unless x is ahead of it
    first_step : (x e : ℕ) (xs : List ℕ) → Held m (x ∷ xs) → First ahead (λ y. T (mem y xs)) e
        → (f : ℕ) × First ahead (λ y. T (mem y (x ∷ xs))) f
    first_step x e xs held first = grind (arith, ahead_total x e)

    first_found : (x : ℕ) (xs : List ℕ) → Held m (x ∷ xs) → (e : ℕ) × First ahead (λ y. T (mem y (x ∷ xs))) e
    first_found x [] held = (x, grind arith)
    first_found x (y ∷ ys) held = let p = first_found y ys (λ w i. grind arith) in first_step x p.0 (y ∷ ys) held p.1

    -- e is before none of the steps
    foremost_found : (xs : List ℕ) (e : ℕ) → Held m xs → Latest m xs e → (f : ℕ) × First ahead (Latest m xs) f
    foremost_found xs e held top = grind (arith, nat_tests, first_found e (tops m xs), top_latest, latest_top)

module _ (m : Order) (laws : OrderLaws m) where
  -- serial order turned round
  abbrev pub later : ℕ → ℕ → Bool
  later a b = m.earlier b a

  pub later_trans : (a b c : ℕ) → T (later a b) → T (later b c) → T (later a c)
  later_trans a b c h k = laws.earlier_trans c b a k h

  pub later_total : (a b : ℕ) → a < m.steps → b < m.steps → (a ≡ b → ⊥) → T (later a b) ⊎ T (later b a)
  later_total a b h k n = laws.earlier_total b a k h (λ e. n (sym e))

  last_latest : (xs : List ℕ) (e : ℕ) → First later (λ y. T (mem y xs)) e → Latest m xs e
  last_latest xs e first = grind arith

  pub two_found : TwoFound m
  two_found s rs held =
      let p = first_found m later later_trans later_total s rs held in
      let top = last_latest (s ∷ rs) p.0 p.1 in (
        foremost_found m m.earlier laws.earlier_trans laws.earlier_total (s ∷ rs) p.0 held top,
        foremost_found m later later_trans later_total (s ∷ rs) p.0 held top,
      )
