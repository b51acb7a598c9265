-- Orders of places as lists: no place twice, `ahead` as a strict order, and how many places a list can hold.
use Rattle.std.proofs.lemmas.Bool.Decides.{nat_tests}
use Rattle.std.proofs.Common.{◌≡◌, ℕ, zero, suc, ◌+◌, ◌<◌, ◌≤◌, Bool, cond, T, eqb, ◌⊎◌, List, [], ◌∷◌, ◌++◌, length, sym, refl, inl, inr, arith, length-append}
use Rattle.std.proofs.lemmas.Bool.{cases_lt}
use Rattle.model.specs.Lists.{mem, below, keep}
use Rattle.model.specs.Legal.{ahead}
use Rattle.model.proofs.Shelf.Lists.{mem_head, mem_here, mem_tail, mem_of, mem_swap, keep_in, keep_of, ++_l, ++_r, ++_of}
use Rattle.model.proofs.Shelf.Lists.{below_in, below_of, length_below}

-- no number stands twice
abbrev pub Apart : List ℕ → Type 0
Apart [] = Unit {0}
Apart (x ∷ o) = (T (mem x o) → ⊥) × Apart o

-- a list without the first x in it
abbrev without : ℕ → List ℕ → List ℕ
without x [] = []
without x (y ∷ o) = cond (eqb x y) o (y ∷ without x o)

mem_without : (x i : ℕ) (o : List ℕ) → (i ≡ x → ⊥) → T (mem i o) → T (mem i (without x o))
mem_without x i [] n t = t
mem_without x i (y ∷ o) n t = grind (arith, mem_without x i o)

-- what f gives of the numbers of a list, added up
abbrev pub sum : (ℕ → ℕ) → List ℕ → ℕ
sum f [] = 0
sum f (x ∷ s) = f x + sum f s

sum_without : (f : ℕ → ℕ) (x : ℕ) (s : List ℕ) → T (mem x s) → sum f s ≡ f x + sum f (without x s)
sum_without f x [] q = absurd q
sum_without f x (y ∷ s) q = grind (arith, sum_without f x s)

-- a list with no number twice has no greater a sum than one that holds all its numbers
pub sum_le : (f : ℕ → ℕ) (o q : List ℕ) → Apart o → ((i : ℕ) → T (mem i o) → T (mem i q)) → sum f o ≤ sum f q
sum_le f [] q a g = omega arith
sum_le f (x ∷ o) q a g =
    let w = sum_without f x q (g x (mem_head x o)) in
    let v = sum_le f o (without x q) a.1 (λ i t. mem_without x i q (λ e. a.0 (mem_swap i x o e t)) (g i (mem_tail i x o t))) in
    omega arith

-- so it is no longer
length_sum : (o : List ℕ) → length o ≡ sum (λ _. 1) o
length_sum [] = refl
length_sum (x ∷ o) = let r = length_sum o in omega arith

length_without : (x : ℕ) (o : List ℕ) → T (mem x o) → length o ≡ suc (length (without x o))
length_without x o t = grind (arith, nat_tests, length_sum, sum_without)

apart_le : (o q : List ℕ) → Apart o → ((i : ℕ) → T (mem i o) → T (mem i q)) → length o ≤ length q
apart_le o q a f = let b = length_sum o in let c = length_sum q in let r = sum_le (λ _. 1) o q a f in omega arith

pub below_apart : (n : ℕ) → Apart (below n)
below_apart zero = tt
below_apart (suc n) = (λ t. (let h = below_of n n t in omega arith), below_apart n)

-- a list that holds all numbers below n has at least n of them
covers_le : (n : ℕ) (q : List ℕ) → ((i : ℕ) → i < n → T (mem i q)) → n ≤ length q
covers_le n q f =
    let r = apart_le (below n) q (below_apart n) (λ i t. f i (below_of n i t)) in
    let l = length_below n in
    omega arith

-- a list of n numbers that holds all numbers below n holds none twice, and no other
pub covers_bound : (n : ℕ) (q : List ℕ) → length q ≡ n → ((i : ℕ) → i < n → T (mem i q)) → (x : ℕ) → T (mem x q) → x < n
covers_bound n q l f x m =
    elim (cases_lt x n) [
      | inl s ↦ s
      | inr s ↦
          (let w = length_without x q m in
          let c = covers_le n (without x q) (λ i h. mem_without x i q (omega arith) (f i h)) in
          absurd (omega arith))
    ]

covers_apart_from : (n : ℕ) (p o : List ℕ) → length p + length o ≡ n → ((i : ℕ) → i < n → T (mem i p) ⊎ T (mem i o)) → Apart o
covers_apart_from n p [] l f = tt
covers_apart_from n p (x ∷ o) l f = (
  λ t.
      (let c = covers_le n (p ++ o)
      (λ i h. elim (f i h) [
        | inl s ↦ ++_l i p o s
        | inr s ↦ ++_r i p o (elim (mem_of i x o s) [ inl e ↦ mem_swap x i o (sym e) t | inr r ↦ r ])
      ]) in
      let a = length-append p o in
      omega arith),
  covers_apart_from n (x ∷ p) o (omega arith)
      (λ i h. elim (f i h) [
        | inl s ↦ inl (mem_tail i x p s)
        | inr s ↦ elim (mem_of i x o s) [ inl e ↦ inl (mem_here i x p e) | inr r ↦ inr r ]
      ]),
)

pub covers_apart : (n : ℕ) (o : List ℕ) → length o ≡ n → ((i : ℕ) → i < n → T (mem i o)) → Apart o
covers_apart n o l f = covers_apart_from n [] o (omega arith) (λ i h. inr (f i h))

-- numbers below n, none twice, are n at the most; and n if they are all of them
pub apart_bound : (n : ℕ) (o : List ℕ) → Apart o → ((i : ℕ) → T (mem i o) → i < n) → length o ≤ n
apart_bound n o a f =
    let d = apart_le o (below n) a (λ i t. below_in n i (f i t)) in
    let l = length_below n in
    omega arith

pub apart_length : (n : ℕ) (o : List ℕ) → Apart o → ((i : ℕ) → T (mem i o) → i < n) → ((i : ℕ) → i < n → T (mem i o)) → length o ≡ n
apart_length n o a f g = let c = covers_le n o g in let d = apart_bound n o a f in omega arith

-- ahead
pub ahead_mem_l : (o : List ℕ) (i j : ℕ) → T (ahead o i j) → T (mem i o)
ahead_mem_l [] i j t = elim t [ ]
ahead_mem_l (x ∷ o) i j t = grind (arith, ahead_mem_l o)

pub ahead_grow : (x : ℕ) (o : List ℕ) (i j : ℕ) → T (ahead o i j) → T (ahead (x ∷ o) i j)
ahead_grow x o i j t = grind (arith, ahead_mem_l)

pub ahead_head : (x : ℕ) (o : List ℕ) (i : ℕ) → T (mem i o) → T (ahead (x ∷ o) i x)
ahead_head x o i t = grind arith

-- what ahead says at a longer list
pub ahead_of : (x : ℕ) (o : List ℕ) (i j : ℕ) → T (ahead (x ∷ o) i j) → ((x ≡ j) × T (mem i o)) ⊎ ((x ≡ j → ⊥) × T (ahead o i j))
ahead_of x o i j t = grind arith

pub ahead_irrefl : (o : List ℕ) → Apart o → (i : ℕ) → T (ahead o i i) → ⊥
ahead_irrefl [] a i t = t
ahead_irrefl (x ∷ o) a i t = grind (arith, nat_tests, ahead_irrefl o)

ahead_trans : (o : List ℕ) → Apart o → (i j k : ℕ) → T (ahead o i j) → T (ahead o j k) → T (ahead o i k)
ahead_trans [] a i j k s t = elim s [ ]
ahead_trans (x ∷ o) a i j k s t = grind (arith, nat_tests, ahead_trans o, ahead_of, ahead_mem_l, ahead_grow)

pub ahead_asym : (o : List ℕ) → Apart o → (i j : ℕ) → T (ahead o i j) → T (ahead o j i) → ⊥
ahead_asym o a i j s t = ahead_irrefl o a i (ahead_trans o a i j i s t)

-- the recorded order
pub below_ahead : (n i j : ℕ) → i < j → j < n → T (ahead (below n) i j)
below_ahead zero i j h k = absurd (omega arith)
below_ahead (suc n) i j h k = grind (arith, nat_tests, below_ahead n, below_in, ahead_grow)

-- joined lists and kept parts
pub apart-++ : (p q : List ℕ) → Apart p → Apart q → ((i : ℕ) → T (mem i p) → T (mem i q) → ⊥) → Apart (p ++ q)
apart-++ [] q a b d = b
apart-++ (x ∷ p) q a b d = (
  λ t. elim (++_of x p q t) [ inl s ↦ a.0 s | inr s ↦ d x (mem_head x p) s ],
  apart-++ p q a.1 b (λ i s t. d i (mem_tail i x p s) t),
)

pub apart_keep : (f : ℕ → Bool) (o : List ℕ) → Apart o → Apart (keep f o)
apart_keep f [] a = tt
apart_keep f (x ∷ o) a = grind (arith, nat_tests, apart_keep f o, keep_of)

pub ahead_keep : (f : ℕ → Bool) (o : List ℕ) (i j : ℕ) → T (f i) → T (f j) → T (ahead o i j) → T (ahead (keep f o) i j)
ahead_keep f [] i j a b t = elim t [ ]
ahead_keep f (x ∷ o) i j a b t = grind (arith, nat_tests, ahead_keep f o, ahead_of, keep_in, ahead_grow)

pub ahead-++_r : (p q : List ℕ) (i j : ℕ) → T (ahead q i j) → T (ahead (p ++ q) i j)
ahead-++_r [] q i j t = t
ahead-++_r (x ∷ p) q i j t = ahead_grow x (p ++ q) i j (ahead-++_r p q i j t)

pub ahead-++_l : (p q : List ℕ) (i j : ℕ) → T (ahead p i j) → T (ahead (p ++ q) i j)
ahead-++_l [] q i j t = elim t [ ]
ahead-++_l (x ∷ p) q i j t = grind (arith, nat_tests, ahead-++_l p, ahead_of, ++_l, ahead_grow)

pub ahead-++_lr : (p q : List ℕ) (i j : ℕ) → T (mem i q) → T (mem j p) → T (ahead (p ++ q) i j)
ahead-++_lr [] q i j s t = elim t [ ]
ahead-++_lr (x ∷ p) q i j s t = grind (arith, nat_tests, ahead-++_lr p, ++_r, ahead_grow)
