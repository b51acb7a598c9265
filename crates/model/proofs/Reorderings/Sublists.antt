-- The parts of a past that hold all that is before any of their events.
use Rattle.std.proofs.lemmas.Bool.Decides.{nat_tests}
use Rattle.std.proofs.Common.{ℕ, ◌<◌, T, List, [], ◌∷◌, length, arith}
use Rattle.model.specs.Lists.{mem}
use Rattle.model.specs.Past.{Past}
use Rattle.model.specs.Before.{HappensBefore}
use Rattle.model.specs.Legal.{Legal, ahead}
use Rattle.model.proofs.Orderings.Rows.{Apart}
use Rattle.model.proofs.Orderings.Legals.{legal_apart, legal_bound}

module _ {C : Type 0} (h : Past C) where
  -- places of h, none twice, each behind all that is before it
  abbrev pub Part : List ℕ → Type 0
  Part [] = Unit {0}
  Part (x ∷ s) = (x < length h) × (T (mem x s) → ⊥) × ((i : ℕ) → HappensBefore h i x → T (mem i s)) × Part s

  pub part_apart : (s : List ℕ) → Part s → Apart s
  part_apart [] P = tt
  part_apart (x ∷ s) P = (P.1, part_apart s P.3)

  pub part_inside : (s : List ℕ) → Part s → (i : ℕ) → T (mem i s) → i < length h
  part_inside [] P i q = absurd q
  part_inside (x ∷ s) P i q = grind (arith, part_inside s)

  -- a part holds what is before any event of it
  pub part_closed : (s : List ℕ) → Part s → (i j : ℕ) → T (mem j s) → HappensBefore h i j → T (mem i s)
  part_closed [] P i j q b = absurd q
  part_closed (x ∷ s) P i j q b = grind (arith, part_closed s)

  -- a place of a part that, were it later than the next one, would be after it
  pub part_early : (x : ℕ) (s : List ℕ) → Part (x ∷ s) → (p : ℕ) → T (mem p s) → (x < p → HappensBefore h x p) → p < x
  part_early x s P p q f = grind (arith, part_closed)

  ahead_part : (s : List ℕ) → Apart s → ((i : ℕ) → T (mem i s) → i < length h)
      → ((i j : ℕ) → T (mem j s) → HappensBefore h i j → T (ahead s i j)) → Part s
  ahead_part [] a c k = tt
  ahead_part (x ∷ s) a c k = grind (arith, nat_tests, ahead_part s)

  pub part_of_legal : (o : List ℕ) → Legal h o → Part o
  part_of_legal o L = ahead_part o (legal_apart h o L) (legal_bound h o L) (λ i j q b. L.keeps i j b)
