-- How many of the numbers below n pass a test, and whether one does. No more tasks live in a finish than are held.
use Rattle.std.proofs.lemmas.Bool.{cases_eq}
use Rattle.std.proofs.lemmas.Bool.Decides.{nat_tests}
use Rattle.std.proofs.Common.{◌≡◌, ℕ, suc, ◌<◌, ◌≤◌, Bool, true, false, cond, ◌||◌, inl, inr, refl, sym, ap, ◌∙◌, arith}
use Rattle.model.specs.Lists.{any, below, put}
use Rattle.order.proofs.Books.Writes.{put_at, put_off}
use Rattle.order.specs.States.{State, lives_in}
use Rattle.order.specs.Invariants.{Plain, count}

pub count_le : (p : ℕ → Bool) (n : ℕ) → count p n ≤ n
count_le p ℕ.zero = omega arith
count_le p (suc n) = go (p n) (count_le p n)
  where
    go : (b : Bool) → count p n ≤ n → cond b (suc (count p n)) (count p n) ≤ suc n
    go true h = omega (arith, h)
    go false h = omega (arith, h)

pub alive_le : (st : State) → Plain st → (f : ℕ) → f < st.finishes → (st.finish f).alive ≤ st.tasks
alive_le st p f h = omega (arith, p.counted f h, count_le (λ t. lives_in (st.task t) f) st.tasks)

pub count_same : (p q : ℕ → Bool) (n : ℕ) → ((u : ℕ) → u < n → p u ≡ q u) → count p n ≡ count q n
count_same p q ℕ.zero e = refl
count_same p q (suc n) e = let h = count_same p q n (λ u l. e u (omega (arith, l))) in let k = e n (omega arith) in cc

pub any_same : (p q : ℕ → Bool) (n : ℕ) → ((u : ℕ) → u < n → p u ≡ q u) → any p (below n) ≡ any q (below n)
any_same p q ℕ.zero e = refl
any_same p q (suc n) e = let h = any_same p q n (λ u l. e u (omega (arith, l))) in let k = e n (omega arith) in cc

-- one passes, at t, that does not pass once t is put out
pub count_put : (p : ℕ → Bool) (t n : ℕ) → t < n → p t ≡ true → count p n ≡ suc (count (put p t false) n)
count_put p t ℕ.zero h e = absurd (omega (arith, h))
count_put p t (suc n) h e = elim (cases_eq n t) [
  | inl s ↦ let a = put_at p t false n s in let b = count_same p (put p t false) n (λ u l. sym (put_off p t false u (λ k. omega (arith, s, k, l)))) in let c = ap p s ∙ e in cc
  | inr d ↦ let a = put_off p t false n d in let b = count_put p t n (omega (arith, h, d)) e in go (p n) _ a b
]
  where
    go : (x y : Bool) → y ≡ x → count p n ≡ suc (count (put p t false) n) → cond x (suc (count p n)) (count p n) ≡ suc (cond y (suc (count (put p t false) n)) (count (put p t false) n))
    go true true e h = ap suc h
    go true false e h = absurd (cc)
    go false true e h = absurd (cc)
    go false false e h = h

-- where t did not pass, one of the numbers passes then if t does, or if one did before
pub any_put : (p : ℕ → Bool) (t : ℕ) (b : Bool) (n : ℕ) → t < n → p t ≡ false → any (put p t b) (below n) ≡ (b || any p (below n))
any_put p t b ℕ.zero h e = absurd (omega (arith, h))
any_put p t b (suc n) h e = elim (cases_eq n t) [
  | inl s ↦ let a = put_at p t b n s in let c = any_same (put p t b) p n (λ u l. put_off p t b u (λ k. omega (arith, s, k, l))) in let d = ap p s ∙ e in cc
  | inr d ↦ let a = put_off p t b n d in let c = any_put p t b n (omega (arith, h, d)) e in grind (arith, a, c)
]

-- none passes
pub count_none : (p : ℕ → Bool) (n u : ℕ) → count p n ≡ 0 → u < n → p u ≡ true → ⊥
count_none p ℕ.zero u z h e = omega (arith, h)
count_none p (suc n) u z h e = let r = count_none p n u in grind (arith, nat_tests, r, z, h, e)

pub count_zero : (p : ℕ → Bool) (n : ℕ) → ((u : ℕ) → u < n → p u ≡ false) → count p n ≡ 0
count_zero p ℕ.zero e = refl
count_zero p (suc n) e = let h = count_zero p n (λ u l. e u (omega (arith, l))) in let k = e n (omega arith) in cc
