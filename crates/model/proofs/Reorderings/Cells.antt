-- How many cells a list of them names: no more than any list that names them all.
use Rattle.std.proofs.lemmas.Bool.Decides.{nat_tests}
use Rattle.std.proofs.Common.{◌≡◌, ℕ, ◌+◌, ◌<◌, ◌≤◌, Bool, cond, not, T, List, [], ◌∷◌, sym, refl, ◌∙◌, subst, inl, inr, zero-add, arith}
use Rattle.model.specs.declared.Event.TheVariants.{Spawn}
use Rattle.model.specs.Lists.{any, keep, some_or}
use Rattle.model.specs.Past.{Past}
use Rattle.model.specs.Accesses.{CellKind, cell_of}
use Rattle.model.specs.Cells.{cell_held, cells_held}
use Rattle.model.proofs.Shelf.Tests.{tried, or_l, or_r, cond_no}

module _ {C : Type 0} (k : CellKind C) where
  -- whether a list names a cell
  abbrev has : C → List C → Bool
  has c xs = any (k.same c) xs

  -- how many cells it names
  abbrev distinct : List C → ℕ
  distinct [] = 0
  distinct (c ∷ xs) = cond (has c xs) 0 1 + distinct xs

  -- a list without a cell
  abbrev drop : C → List C → List C
  drop y xs = keep (λ x. not (k.same y x)) xs

  drop_out : (y x : C) (xs : List C) → T (k.same y x) → drop y (x ∷ xs) ≡ drop y xs
  drop_out y x xs e = grind arith

  drop_in : (y x : C) (xs : List C) → (T (k.same y x) → ⊥) → drop y (x ∷ xs) ≡ (x ∷ drop y xs)
  drop_in y x xs n = grind arith

  has_swap : (x y : C) (xs : List C) → T (k.same x y) → T (has x xs) → T (has y xs)
  has_swap x y xs e t = subst (λ z. T (has z xs)) (k.same_is x y e) t

  -- dropping a cell that is not named changes nothing, and dropping one leaves the others
  drop_none : (y : C) (xs : List C) → (T (has y xs) → ⊥) → drop y xs ≡ xs
  drop_none y [] n = refl
  drop_none y (x ∷ xs) n = grind (arith, nat_tests, drop_none y xs)

  has_drop : (y x : C) (xs : List C) → (T (k.same y x) → ⊥) → has x (drop y xs) ≡ has x xs
  has_drop y x [] n = refl
  has_drop y x (z ∷ xs) n = grind (arith, nat_tests, has_drop y x xs)

  -- 0 for a cell that is named again, 1 for one that is not
  abbrev one : Bool → ℕ
  one b = cond b 0 1

  -- dropping one that is named leaves fewer
  distinct_drop : (y : C) (xs : List C) → T (has y xs) → distinct (drop y xs) < distinct xs
  distinct_drop y [] t = absurd t
  distinct_drop y (x ∷ xs) t = grind (arith, nat_tests, distinct_drop y xs, drop_out, one, drop_none, has_swap, drop_in, has_drop)

  cover : (xs ys : List C) → ((c : C) → T (has c xs) → T (has c ys)) → distinct xs ≤ distinct ys
  cover [] ys f = omega arith
  cover (x ∷ xs) ys f = elim (tried (has x xs)) [
    | inl m ↦
        grind (arith, nat_tests, cover xs)
    | inr n ↦
        (let v : one (has x xs) ≡ 1 = cond_no (has x xs) 0 1 n in
        let other : (c : C) → T (has c xs) → T (k.same x c) → ⊥ = λ c t e. n (subst (λ z. T (has z xs)) (sym (k.same_is x c e)) t) in
        let u : distinct xs ≤ distinct (drop x ys) =
        cover xs (drop x ys) (λ c t. subst T (sym (has_drop x c ys (other c t))) (f c (or_r (k.same c x) (has c xs) t))) in
        let w = distinct_drop x ys (f x (or_l (k.same x x) (has x xs) (k.same_refl x))) in
        omega arith)
  ]

  -- the cells of a past
  abbrev cells : Past C → List C
  cells [] = []
  cells (e ∷ g) = some_or (λ c. c ∷ cells g) (cells g) (cell_of e)

  held_has : (g : Past C) (c : C) → cell_held k g c ≡ has c (cells g)
  held_has [] c = refl
  held_has (Spawn t u ∷ g) c = held_has g c
  held_has (e ∷ g) c = grind (arith, held_has g)

  held_distinct : (g : Past C) → cells_held k g ≡ distinct (cells g)
  held_distinct [] = refl
  held_distinct (Spawn t u ∷ g) = zero-add (cells_held k g) ∙ held_distinct g
  held_distinct (e ∷ g) = grind (arith, nat_tests, held_distinct g, one, held_has)

  -- a past that touches every cell of another touches no fewer
  pub cells_cover : (g h : Past C) → ((c : C) → T (cell_held k g c) → T (cell_held k h c)) → cells_held k g ≤ cells_held k h
  cells_cover g h f =
      let u = cover (cells g) (cells h) (λ c t. subst T (held_has h c) (f c (subst T (sym (held_has g c)) t))) in
      let v = held_distinct g in
      let w = held_distinct h in
      omega arith
