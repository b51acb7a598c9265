-- What an order says of steps that are held, it says at all.
use Rattle.std.proofs.lemmas.Bool.{ltb-true, lt-ltb}
use Rattle.std.proofs.Common.{◌≡◌, ℕ, ◌<◌, Bool, true, false, T, ◌&&◌, nat_lt, refl, sym, subst, ◌∙◌, arith}
use Rattle.order.specs.States.{State}

-- a relation of numbers below n, given by v there
pub agree : (R : ℕ → ℕ → Bool) (n a b : ℕ) (v : Bool) → (T (R a b) → (a < n) × (b < n)) → (a < n → b < n → R a b ≡ v)
    → (nat_lt a n && (nat_lt b n && v)) ≡ R a b
agree R n a b v held is = go (nat_lt a n) (nat_lt b n) (R a b) refl refl refl
  where
    go : (x y r : Bool) → nat_lt a n ≡ x → nat_lt b n ≡ y → R a b ≡ r → (x && (y && v)) ≡ r
    go true true r e f g = sym (is (ltb-true a n e) (ltb-true b n f)) ∙ g
    go x y true e f g = let h = held (subst T (sym g) tt) in let i = lt-ltb a n h.0 in let j = lt-ltb b n h.1 in let k = is h.0 h.1 in grind arith
    go true false false e f g = refl
    go false y false e f g = refl

-- what is told of two steps that are held
pub of_held : (n a b : ℕ) (v w : Bool) → a < n → b < n → v ≡ w → w ≡ (nat_lt a n && (nat_lt b n && v))
of_held n a b v w h k e = grind (arith, lt-ltb a n h, lt-ltb b n k, e)

-- two steps that a keeper has seen to be held
pub both_held : (st : State) (a b : ℕ) → true ≡ (nat_lt a st.steps && nat_lt b st.steps) → (a < st.steps) × (b < st.steps)
both_held st a b e = go (nat_lt a st.steps) (nat_lt b st.steps) refl refl e
  where
    go : (x y : Bool) → nat_lt a st.steps ≡ x → nat_lt b st.steps ≡ y → true ≡ (x && y) → (a < st.steps) × (b < st.steps)
    go true true f g e = (ltb-true a st.steps f, ltb-true b st.steps g)
    go false y f g e = absurd (cc e)
    go true false f g e = absurd (cc e)
