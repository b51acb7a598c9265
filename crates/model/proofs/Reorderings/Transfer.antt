-- What is before in a past whose every event was taken is before in every part of it that is arranged.
use Rattle.std.proofs.Common.{◌≡◌, ℕ, ◌<◌, ◌&&◌, ◌||◌, T, eqb, List, ◌∷◌, Some, sym, refl, ◌∙◌, subst, ap₂}
use Rattle.model.specs.declared.Event.{Event}
use Rattle.model.specs.declared.Event.TheVariants.{Close}
use Rattle.model.specs.Lists.{mem}
use Rattle.model.specs.Past.{Past, at, behind, actor, makes, ends, home, same_finish}
use Rattle.model.specs.Before.{HappensBefore, direct, through, leads, awaited}
use Rattle.model.specs.Accesses.{CellKind}
use Rattle.model.specs.Legal.{arranged, part_ahead}
use Rattle.model.proofs.Linking.Sound.{Sound}
use Rattle.model.proofs.Telling.Sooner.{home_then}
use Rattle.model.proofs.Reorderings.Sublists.{Part, part_closed}
use Rattle.model.proofs.Reorderings.Arranged.{pos, pos_is, part_split, pos_ahead, ahead_in}
use Rattle.model.proofs.Reorderings.Facts.{makes_before}
use Rattle.model.proofs.Reorderings.Homes.{home_part, innermost_part}

module _ {C : Type 0} (k : CellKind C) (h : Past C) (so : Sound k h) where
  -- the next event awaited the same ends in a part
  awaits_same : (j : ℕ) (s : List ℕ) (e : Event C) → Part h (j ∷ s) → at h j ≡ Some e
      → (i : ℕ) (d : Event C) → T (mem i s) → i < j → at h i ≡ Some d → awaited (behind h j) d e ≡ awaited (arranged h s) d e
  awaits_same j s (Close t) P b i d q lt a =
      let spawn_in : (p : ℕ) (c : Event C) → at h p ≡ Some c → T (makes (actor d) c) → T (mem p s) =
      λ p c x m. part_closed h s P.3 p i q (makes_before k h so p i c d x a m) in
      let lives : home (behind h j) (actor d) ≡ home (arranged h s) (actor d) =
      home_then k h so i j d lt P.0 a ∙ sym (home_part k h so s P.3 (actor d) spawn_in) in
      ap₂ (λ x y. ends (actor d) d && same_finish x y) lives (sym (innermost_part k h so j s (Close t) P b))
  awaits_same j s e P b i d q lt a = refl

  pub transfer : (s : List ℕ) → Part h s → (i j : ℕ) → T (mem j s)
      → HappensBefore h i j → HappensBefore (arranged h s) (pos s i) (pos s j)
  transfer s P i j q (direct _ _ d e lt a b t) =
      let s' = part_ahead s j in
      let P' : Part h (j ∷ s') = part_split h s P j q in
      let r : T (mem i s') = P'.2 i (direct i j d e lt a b t) in
      direct (pos s i) (pos s j) d e (pos_ahead h s P j i q r) ((pos_is h s P i (ahead_in s j i r)).0 ∙ a) ((pos_is h s P j q).0 ∙ b)
      (subst (λ g. T (leads g d e)) (sym (pos_is h s P j q).1)
      (subst (λ x. T (eqb (actor d) (actor e) || (makes (actor e) d || x))) (awaits_same j s' e P' b i d r lt a) t))
  transfer s P i j q (through _ m _ x y) =
      through (pos s i) (pos s m) (pos s j) (transfer s P i m (part_closed h s P m j q y) x) (transfer s P m j q y)
