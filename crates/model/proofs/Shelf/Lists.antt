-- Lists of numbers: who stands in one, which of them pass a test, and the numbers below n.
use Rattle.std.proofs.lemmas.Bool.Decides.{nat_tests}
use Rattle.std.proofs.Common.{◌≡◌, ℕ, zero, suc, ◌<◌, Bool, T, ◌⊎◌, List, [], ◌∷◌, ◌++◌, length, Some, None, refl, ap, subst, inl, inr, arith}
use Rattle.model.specs.Lists.{any, keep, flat, mem, below, first_in, last_in}

pub mem_head : (x : ℕ) (xs : List ℕ) → T (mem x (x ∷ xs))
mem_head x xs = grind arith

pub mem_here : (x y : ℕ) (xs : List ℕ) → x ≡ y → T (mem x (y ∷ xs))
mem_here x y xs e = grind arith

pub mem_tail : (x y : ℕ) (xs : List ℕ) → T (mem x xs) → T (mem x (y ∷ xs))
mem_tail x y xs t = grind arith

pub mem_of : (x y : ℕ) (xs : List ℕ) → T (mem x (y ∷ xs)) → (x ≡ y) ⊎ T (mem x xs)
mem_of x y xs t = grind arith

pub mem_rest : (x y : ℕ) (xs : List ℕ) → (x ≡ y → ⊥) → T (mem x (y ∷ xs)) → T (mem x xs)
mem_rest x y xs n t = grind arith

pub mem_swap : (x y : ℕ) (xs : List ℕ) → x ≡ y → T (mem x xs) → T (mem y xs)
mem_swap x y xs e t = subst (λ z. T (mem z xs)) e t

-- what stands in a list and passes
pub any_of : (p : ℕ → Bool) (xs : List ℕ) → T (any p xs) → (x : ℕ) × T (mem x xs) × T (p x)
any_of p [] t = absurd t
any_of p (x ∷ xs) t = grind (arith, any_of p xs)

pub any_in : (p : ℕ → Bool) (xs : List ℕ) (x : ℕ) → T (mem x xs) → T (p x) → T (any p xs)
any_in p [] x m t = absurd m
any_in p (y ∷ xs) x m t = grind (arith, any_in p xs)

pub keep_in : (p : ℕ → Bool) (xs : List ℕ) (x : ℕ) → T (mem x xs) → T (p x) → T (mem x (keep p xs))
keep_in p [] x m t = absurd m
keep_in p (y ∷ xs) x m t = grind (arith, keep_in p xs)

pub keep_of : (p : ℕ → Bool) (xs : List ℕ) (x : ℕ) → T (mem x (keep p xs)) → T (mem x xs) × T (p x)
keep_of p [] x m = absurd m
keep_of p (y ∷ xs) x m = grind (arith, keep_of p xs)

-- none passes
pub keep_none : (p : ℕ → Bool) (xs : List ℕ) → ((j : ℕ) → T (mem j xs) → T (p j) → ⊥) → keep p xs ≡ []
keep_none p [] f = refl
keep_none p (x ∷ xs) f = grind (arith, nat_tests, keep_none p xs)

-- two tests that say the same of a list
pub any_same : (p q : ℕ → Bool) (xs : List ℕ) → ((x : ℕ) → T (mem x xs) → p x ≡ q x) → any p xs ≡ any q xs
any_same p q [] f = refl
any_same p q (x ∷ xs) f = grind (arith, nat_tests, any_same p q xs)

pub keep_same : (p q : ℕ → Bool) (xs : List ℕ) → ((x : ℕ) → T (mem x xs) → p x ≡ q x) → keep p xs ≡ keep q xs
keep_same p q [] f = refl
keep_same p q (x ∷ xs) f = grind (arith, keep_same p q xs)

-- joined lists
pub ++_l : (x : ℕ) (xs ys : List ℕ) → T (mem x xs) → T (mem x (xs ++ ys))
++_l x [] ys t = absurd t
++_l x (y ∷ xs) ys t = grind (arith, nat_tests, ++_l x xs)

pub ++_r : (x : ℕ) (xs ys : List ℕ) → T (mem x ys) → T (mem x (xs ++ ys))
++_r x [] ys t = t
++_r x (y ∷ xs) ys t = grind (arith, nat_tests, ++_r x xs)

pub ++_of : (x : ℕ) (xs ys : List ℕ) → T (mem x (xs ++ ys)) → T (mem x xs) ⊎ T (mem x ys)
++_of x [] ys t = inr t
++_of x (y ∷ xs) ys t = grind (arith, ++_of x xs)

pub flat_in : (f : ℕ → List ℕ) (x y : ℕ) (xs : List ℕ) → T (mem y xs) → T (mem x (f y)) → T (mem x (flat f xs))
flat_in f x y [] m t = absurd m
flat_in f x y (z ∷ xs) m t = grind (arith, nat_tests, flat_in f x y xs, ++_l, ++_r)

pub flat_of : (f : ℕ → List ℕ) (x : ℕ) (xs : List ℕ) → T (mem x (flat f xs)) → (y : ℕ) × T (mem y xs) × T (mem x (f y))
flat_of f x [] t = absurd t
flat_of f x (z ∷ xs) t = elim (++_of x (f z) (flat f xs) t) [
  | inl s ↦ (z, mem_head z xs, s)
  | inr s ↦ grind (arith, flat_of f x xs)
]

-- the numbers below n
pub below_in : (n x : ℕ) → x < n → T (mem x (below n))
below_in zero x h = absurd (omega arith)
below_in (suc n) x h = grind (arith, nat_tests, below_in n)

pub below_of : (n x : ℕ) → T (mem x (below n)) → x < n
below_of zero x t = absurd t
below_of (suc n) x t = grind (arith, nat_tests, below_of n)

pub length_below : (n : ℕ) → length (below n) ≡ n
length_below zero = refl
length_below (suc n) = ap suc (length_below n)

pub any_below_of : (p : ℕ → Bool) (n : ℕ) → T (any p (below n)) → (x : ℕ) × (x < n) × T (p x)
any_below_of p n t = let r = any_of p (below n) t in (r.0, below_of n r.0 r.1, r.2)

pub any_below_in : (p : ℕ → Bool) (n x : ℕ) → x < n → T (p x) → T (any p (below n))
any_below_in p n x l t = any_in p (below n) x (below_in n x l) t

-- the first and the last of a list stand in it
pub first_in_mem : (xs : List ℕ) (i : ℕ) → first_in xs ≡ Some i → T (mem i xs)
first_in_mem [] i e = cc
first_in_mem (x ∷ xs) i e = grind arith

pub last_in_mem : (xs : List ℕ) (i : ℕ) → last_in xs ≡ Some i → T (mem i xs)
last_in_mem [] i e = cc
last_in_mem (x ∷ []) i e = grind arith
last_in_mem (x ∷ (y ∷ xs)) i e = mem_tail i x (y ∷ xs) (last_in_mem (y ∷ xs) i e)

pub first_in_none : (xs : List ℕ) → first_in xs ≡ None → (i : ℕ) → T (mem i xs) → ⊥
first_in_none [] e i m = m
first_in_none (x ∷ xs) e i m = cc

pub last_in_none : (xs : List ℕ) → last_in xs ≡ None → (i : ℕ) → T (mem i xs) → ⊥
last_in_none [] e i m = m
last_in_none (x ∷ []) e i m = cc
last_in_none (x ∷ (y ∷ xs)) e i m = last_in_none (y ∷ xs) e y (mem_head y xs)
