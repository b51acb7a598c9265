-- What holds of a past whose every event was taken: a task is made once, and nothing it does is ahead of its spawn.
use Rattle.std.proofs.Math.Facts.{yes_eqb}
use Rattle.std.proofs.lemmas.Bool.Decides.{nat_tests}
use Rattle.std.proofs.Common.{◌≡◌, ℕ, ◌<◌, ◌||◌, T, eqb, [], ◌∷◌, Some, None, arith}
use Rattle.model.specs.declared.Event.{Event}
use Rattle.model.specs.Past.{Past, at, behind, actor, makes}
use Rattle.model.specs.Before.{HappensBefore, direct, awaited, to_child}
use Rattle.model.specs.Accesses.{CellKind}
use Rattle.model.specs.Rules.{Limits, taken, judge, first_tests}
use Rattle.model.specs.Laws.{Clean}
use Rattle.model.proofs.Shelf.Tests.{or_l}
use Rattle.model.proofs.Shelf.Places.{at_case}
use Rattle.model.proofs.Orderings.Races.{Pass, kind_tests, clean_passes}
use Rattle.model.proofs.Linking.Sound.{Sound, child_known, stale}
use Rattle.model.proofs.Telling.Same.{told_before}

module _ {C : Type 0} where
  -- what the first two rules put before: a task's earlier events, and its spawn
  pub same_before : (h : Past C) (i j : ℕ) (d e : Event C)
      → at h i ≡ Some d → at h j ≡ Some e → i < j → actor d ≡ actor e → HappensBefore h i j
  same_before h i j d e a b lt s =
      direct i j d e lt a b (or_l (eqb (actor d) (actor e)) (makes (actor e) d || awaited (behind h j) d e) (yes_eqb s))

module _ {C : Type 0} (k : CellKind C) where
  pub makes_before : (h : Past C) → Sound k h → (i j : ℕ) (d e : Event C)
      → at h i ≡ Some d → at h j ≡ Some e → T (makes (actor e) d) → HappensBefore h i j
  makes_before h s i j d e a b m = told_before k h s i j (to_child i j d e a b m)

  -- a task is made once
  pub one_maker : (h : Past C) → Sound k h → (u p q : ℕ) (d e : Event C)
      → at h p ≡ Some d → at h q ≡ Some e → T (makes u d) → T (makes u e) → p ≡ q
  one_maker [] s u p q d e a b m n = cc
  one_maker (f ∷ h) s u p q d e a b m n = grind (arith, nat_tests, one_maker h, at_case, stale, child_known)

  clean_at : (l : Limits) (h : Past C) → Clean k l h → (p : ℕ) (d : Event C) → at h p ≡ Some d → judge k l (behind h p) d ≡ taken None
  clean_at l [] cl p d a = cc
  clean_at l (e ∷ h) cl p d a = grind (arith, nat_tests, clean_at l h)

  -- no test passes of an event of a clean past
  pub passed_at : (l : Limits) (h : Past C) → Clean k l h → (p : ℕ) (d : Event C) → at h p ≡ Some d
      → Pass (first_tests k l (behind h p) d) × Pass (kind_tests k l (behind h p) d)
  passed_at l h cl p d a = clean_passes k l (behind h p) d (clean_at l h cl p d a)
