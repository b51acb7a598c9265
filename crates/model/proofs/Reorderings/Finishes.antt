-- A finish that a part closes has nobody left in it: whoever lived there has ended, and the close awaited that end.
use Rattle.std.proofs.Math.Facts.{and_yes}
use Rattle.std.proofs.lemmas.Bool.Decides.{nat_tests}
use Rattle.std.proofs.Common.{◌≡◌, ℕ, not, ◌&&◌, T, List, ◌∷◌, Some, sym, ap, ◌∙◌, arith, subst}
use lib.Dec.{eqb_refl}
use Rattle.model.specs.declared.Event.{Event}
use Rattle.model.specs.declared.Event.TheVariants.{End, Close}
use Rattle.model.specs.Lists.{mem}
use Rattle.model.specs.Past.{Past, at, behind, makes, ends, home, innermost, same_finish, ended, spawned_tasks, lived_in}
use Rattle.model.specs.Before.{to_close}
use Rattle.model.specs.Accesses.{CellKind}
use Rattle.model.specs.Legal.{arranged}
use Rattle.model.proofs.Shelf.Lists.{mem_swap, any_of}
use Rattle.model.proofs.Shelf.Places.{any_at}
use Rattle.model.proofs.Linking.Sound.{Sound, child_known, spawned_is}
use Rattle.model.proofs.Linking.Finishes.{same_finish_eq}
use Rattle.model.proofs.Telling.Shut.{shut_at}
use Rattle.model.proofs.Telling.Same.{told_before}
use Rattle.model.proofs.Reorderings.Sublists.{Part}
use Rattle.model.proofs.Reorderings.Arranged.{any_arranged, arranged_any}
use Rattle.model.proofs.Shelf.Places.{ends_is}
use Rattle.model.proofs.Reorderings.Facts.{one_maker}
use Rattle.model.proofs.Reorderings.Homes.{home_part, innermost_part}

module _
    {C : Type 0} (k : CellKind C) (h : Past C) (so : Sound k h) (i : ℕ) (s : List ℕ) (t : ℕ)
    (P : Part h (i ∷ s)) (a : at h i ≡ Some (Close t)) where
  -- the part, arranged
  abbrev now : Past C
  now = arranged h s

  -- a task of the part that lives in the finish has ended in the past
  ended_there : (u p : ℕ) (d : Event C) → at h p ≡ Some d → T (makes u d) → home h u ≡ innermost (behind h i) t → T (ended h u)
  ended_there u p d b m e =
      let (n, f, shut) = shut_at k h so i t a in
      grind (arith, child_known)

  -- and so in the part, which holds all that the close awaited
  ended_now : (u p : ℕ) (d : Event C) → T (mem p s) → at h p ≡ Some d → T (makes u d) → home now u ≡ innermost now t → T (ended now u)
  ended_now u p d q b m e =
      let spawn_in : (x : ℕ) (c : Event C) → at h x ≡ Some c → T (makes u c) → T (mem x s) =
      λ x c y n. mem_swap p x s (one_maker k h so u p x d c b y m n) q in
      let lives : home h u ≡ innermost (behind h i) t =
      sym (home_part k h so s P.3 u spawn_in) ∙ e ∙ innermost_part k h so i s (Close t) P a in
      let (j, c, y, z) = any_at (ends u) h (ended_there u p d b m lives) in
      let y' : at h j ≡ Some (End u) = y ∙ ap Some (ends_is u c z) in
      let before = told_before k h so j i (to_close j i (End u) (Close t) y' a (eqb_refl u) (ap Some (sym lives))) in
      arranged_any h (ends u) s P.3 j c (P.2 j before) y z

  pub none_left : T (lived_in now (innermost now t)) → ⊥
  none_left y =
      let (u, m, w) = any_of (λ v. not (ended now v) && same_finish (home now v) (innermost now t)) (spawned_tasks now) y in
      let (p, d, q, b, x) = any_arranged h (makes u) s P.3 (subst T (spawned_is k now u) m) in
      let runs = (and_yes (not (ended now u)) (same_finish (home now u) (innermost now t)) w).0 in
      let lives = (and_yes (not (ended now u)) (same_finish (home now u) (innermost now t)) w).1 in
      grind (arith, nat_tests, ended_now, same_finish_eq)
