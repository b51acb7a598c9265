-- A part of a past has no more of anything than the past.
use Rattle.std.proofs.lemmas.Bool.Decides.{nat_tests}
use Rattle.std.proofs.Common.{◌≡◌, ℕ, zero, suc, ◌+◌, ◌<◌, ◌≤◌, List, [], ◌∷◌, length, Some, None, Option, refl, ap, ◌∙◌, ap₂, arith}
use Rattle.model.specs.declared.Event.{Event}
use Rattle.model.specs.Lists.{some_or, below}
use Rattle.model.specs.Past.{Past, at, child, spawned_tasks}
use Rattle.model.specs.Rules.{steps_of, steps_held}
use Rattle.model.specs.Legal.{arranged}
use Rattle.model.proofs.Shelf.Lists.{below_in}
use Rattle.model.proofs.Shelf.Places.{at_top, at_old}
use Rattle.model.proofs.Reorderings.Sublists.{Part, part_apart, part_inside}
use Rattle.model.proofs.Orderings.Rows.{sum, sum_le}

sum_same : (f g : ℕ → ℕ) (n : ℕ) → ((i : ℕ) → i < n → f i ≡ g i) → sum f (below n) ≡ sum g (below n)
sum_same f g zero e = refl
sum_same f g (suc n) e = ap₂ (λ a b. a + b) (e n (omega arith)) (sum_same f g n (λ i lt. e i (omega arith)))

module _ {C : Type 0} (w : Event C → ℕ) where
  -- what the events of a past weigh
  abbrev total : Past C → ℕ
  total [] = 0
  total (e ∷ g) = w e + total g

  -- what the event at a place weighs
  abbrev weigh : Past C → ℕ → ℕ
  weigh h i = some_or w 0 (at h i)

  total_all : (h : Past C) → total h ≡ sum (weigh h) (below (length h))
  total_all [] = refl
  total_all (e ∷ h) = grind (arith, nat_tests, total_all h, at_top, sum_same, at_old)

  total_some : (h : Past C) (s : List ℕ) → Part h s → total (arranged h s) ≡ sum (weigh h) s
  total_some h [] P = refl
  total_some h (x ∷ s) P = grind (arith, total_some h s)

  total_part : (h : Past C) (s : List ℕ) → Part h s → total (arranged h s) ≤ total h
  total_part h s P = grind (arith, nat_tests, total_some, total_all, sum_le, part_apart, below_in, part_inside)

one_longer : (xs : List ℕ) (o : Option ℕ) → length (some_or (λ u. u ∷ xs) xs o) ≡ some_or (λ _. 1) 0 o + length xs
one_longer xs None = omega arith
one_longer xs (Some u) = omega arith

module _ {C : Type 0} where
  -- how many tasks an event makes
  abbrev births : Event C → ℕ
  births e = some_or (λ _. 1) 0 (child e)

  steps_total : (g : Past C) → steps_held g ≡ total steps_of g + 1
  steps_total [] = refl
  steps_total (e ∷ g) = let u = steps_total g in omega arith

  spawned_total : (g : Past C) → length (spawned_tasks g) ≡ total births g
  spawned_total [] = refl
  spawned_total (e ∷ g) = one_longer (spawned_tasks g) (child e) ∙ ap (λ n. births e + n) (spawned_total g)

  pub steps_part : (h : Past C) (s : List ℕ) → Part h s → steps_held (arranged h s) ≤ steps_held h
  steps_part h s P = grind (arith, nat_tests, steps_total, total_part)

  pub spawned_part : (h : Past C) (s : List ℕ) → Part h s → length (spawned_tasks (arranged h s)) ≤ length (spawned_tasks h)
  spawned_part h s P = grind (arith, nat_tests, spawned_total, total_part)
