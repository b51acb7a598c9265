-- What stands ahead of a place in an order, and the first of it that passes a test.
use Rattle.std.proofs.lemmas.Bool.Decides.{nat_tests}
use Rattle.std.proofs.Common.{◌≡◌, ℕ, ◌≤◌, Bool, T, ◌⊎◌, List, [], ◌∷◌, ◌++◌, Some, Option, sym, refl, ap, ◌∙◌, arith}
use Rattle.model.specs.Lists.{mem, keep, first_in}
use Rattle.model.specs.Legal.{ahead, part_ahead}
use Rattle.model.proofs.Shelf.Tests.{cond_yes}
use Rattle.model.proofs.Shelf.Lists.{mem_head, keep_of, first_in_mem, ++_r}
use Rattle.model.proofs.Orderings.Rows.{Apart, ahead_grow}

-- what is ahead of the latest place, and of an earlier one
part_same : (q : List ℕ) (z x : ℕ) → z ≡ x → part_ahead (z ∷ q) x ≡ q
part_same q z x e = grind arith

pub part_here : (q : List ℕ) (x : ℕ) → part_ahead (x ∷ q) x ≡ q
part_here q x = part_same q x x refl

pub part_next : (q : List ℕ) (z x : ℕ) → (z ≡ x → ⊥) → part_ahead (z ∷ q) x ≡ part_ahead q x
part_next q z x n = grind arith

pub part_mem : (o : List ℕ) (i j : ℕ) → T (ahead o j i) → T (mem j (part_ahead o i))
part_mem [] i j t = t
part_mem (x ∷ o) i j t = grind (arith, nat_tests, part_mem o)

pub mem_part : (o : List ℕ) (i j : ℕ) → T (mem j (part_ahead o i)) → T (ahead o j i)
mem_part [] i j t = t
mem_part (x ∷ o) i j t = grind (arith, nat_tests, mem_part o)

pub part_ahead_grow : (o : List ℕ) (i y x : ℕ) → T (ahead (part_ahead o i) y x) → T (ahead o y x)
part_ahead_grow [] i y x t = t
part_ahead_grow (z ∷ o) i y x t = grind (arith, nat_tests, part_ahead_grow o, ahead_grow, part_same, part_next)

-- all that passes stands ahead of the first that does
pub first_top : (w : ℕ → Bool) (s : List ℕ) (x y : ℕ) → first_in (keep w s) ≡ Some x → T (mem y s) → T (w y) → (y ≡ x) ⊎ T (ahead s y x)
first_top w [] x y f m t = elim m [ ]
first_top w (z ∷ s) x y f m t = grind (arith, nat_tests, first_top w s)

-- the first of a list is its largest
abbrev pub Top : List ℕ → Type 0
Top xs = (x y : ℕ) → first_in xs ≡ Some x → T (mem y xs) → y ≤ x

pub same_first : (xs ys : List ℕ) → ((i : ℕ) → T (mem i xs) → T (mem i ys)) → ((i : ℕ) → T (mem i ys) → T (mem i xs))
    → Top xs → Top ys → first_in xs ≡ first_in ys
same_first [] [] f g a b = refl
same_first [] (y ∷ ys) f g a b = absurd (g y (mem_head y ys))
same_first (x ∷ xs) [] f g a b = absurd (f x (mem_head x xs))
same_first (x ∷ xs) (y ∷ ys) f g a b =
    let p : x ≤ y = b y x refl (f x (mem_head x xs)) in
    let q : y ≤ x = a x y refl (g y (mem_head y ys)) in
    let e : x ≡ y = omega arith in
    ap {B = Option ℕ} Some e

-- an order cut at a place
part_skip : (p q : List ℕ) (x : ℕ) → (T (mem x p) → ⊥) → part_ahead (p ++ q) x ≡ part_ahead q x
part_skip [] q x n = refl
part_skip (z ∷ p) q x n = grind (arith, nat_tests, part_skip p)

apart_back : (p q : List ℕ) → Apart (p ++ q) → Apart q
apart_back [] q a = a
apart_back (x ∷ p) q a = apart_back p q a.1

apart_cross : (p q : List ℕ) → Apart (p ++ q) → (i : ℕ) → T (mem i p) → T (mem i q) → ⊥
apart_cross [] q a i s t = s
apart_cross (x ∷ p) q a i s t = grind (arith, nat_tests, apart_cross p, ++_r)

-- y follows x where they stand side by side, and does not where they stand the other way round
pub swapped : (w : ℕ → Bool) (later sooner : List ℕ) (x y : ℕ) → (x ≡ y → ⊥) → T (w x)
    → Apart (later ++ (y ∷ x ∷ sooner))
    → first_in (keep w (part_ahead (later ++ (y ∷ x ∷ sooner)) y)) ≡ first_in (keep w (part_ahead (later ++ (x ∷ y ∷ sooner)) y)) → ⊥
swapped w later sooner x y n t a e =
    let out : T (mem y later) → ⊥ = (λ m. apart_cross later (y ∷ x ∷ sooner) a y m (mem_head y (x ∷ sooner))) in
    let one : part_ahead (later ++ (y ∷ x ∷ sooner)) y ≡ x ∷ sooner = part_skip later (y ∷ x ∷ sooner) y out ∙ part_here (x ∷ sooner) y in
    let other : part_ahead (later ++ (x ∷ y ∷ sooner)) y ≡ sooner =
    part_skip later (x ∷ y ∷ sooner) y out ∙ (part_next (y ∷ sooner) x y n ∙ part_here sooner y) in
    let is : first_in (keep w (x ∷ sooner)) ≡ Some x = ap first_in (cond_yes (w x) (x ∷ keep w sooner) (keep w sooner) t) in
    let f : first_in (keep w sooner) ≡ Some x =
    ap (λ (z : List ℕ). first_in (keep w z)) (sym other) ∙ (sym e ∙ (ap (λ (z : List ℕ). first_in (keep w z)) one ∙ is)) in
    (apart_back later (y ∷ x ∷ sooner) a).1.0 (keep_of w sooner x (first_in_mem (keep w sooner) x f)).0
