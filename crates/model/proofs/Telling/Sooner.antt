-- A spawn was recorded earlier than every event of the child, and a task's end earlier than the close that awaited it.
use Rattle.std.proofs.lemmas.Bool.Decides.{nat_tests}
use Rattle.std.proofs.Common.{◌≡◌, ℕ, ◌<◌, T, [], ◌∷◌, length, Some, sym, ap, ◌∙◌, subst, inl, inr, arith}
use Rattle.model.specs.declared.Event.{Event}
use Rattle.model.specs.declared.Event.TheVariants.{End, Close}
use Rattle.model.specs.Past.{Past, at, behind, actor, makes, home, innermost}
use Rattle.model.specs.Accesses.{CellKind}
use Rattle.model.proofs.Shelf.Places.{at_case, behind_old}
use Rattle.model.proofs.Linking.Sound.{Known, Good, Sound, actor_known, stale}
use Rattle.model.proofs.Linking.Finishes.{home_old}
use Rattle.model.proofs.Telling.Shut.{shut_at}

module _ {C : Type 0} (k : CellKind C) where
  home_kept : (h : Past C) (e : Event C) (u : ℕ) → Good k h e → Known k h u → home (e ∷ h) u ≡ home h u
  home_kept h e u g q = home_old h e u (stale k h e g u q)

  -- where the actor of an event lives does not change later
  pub home_then : (h : Past C) → Sound k h → (i j : ℕ) (d : Event C) → i < j → j < length h → at h i ≡ Some d
      → home (behind h j) (actor d) ≡ home h (actor d)
  home_then [] s i j d l m q = cc
  home_then (e ∷ h) s i j d l m q = elim (at_case h e i d q) [
    | inl r ↦ (let z : ⊥ = omega arith in absurd z)
    | inr r ↦ (let (p, a) = r in
        let kept = home_kept h e (actor d) s.0 (actor_known k h s.1 i d a) in
        grind (arith, nat_tests, home_then h))
  ]

  -- a spawn that is the last event made no task that is known
  not_last : (h : Past C) (f d : Event C) (u : ℕ) → Good k h f → f ≡ d → Known k h u → T (makes u d) → ⊥
  not_last h f d u g q known m = stale k h f g u known (subst (λ x. T (makes u x)) (sym q) m)

  pub spawn_sooner : (h : Past C) → Sound k h → (i j : ℕ) (d e : Event C) → at h i ≡ Some d → at h j ≡ Some e
      → T (makes (actor e) d) → i < j
  spawn_sooner [] s i j d e a b m = cc
  spawn_sooner (f ∷ h) s i j d e a b m = grind (arith, nat_tests, spawn_sooner h, at_case, not_last, actor_known)

  -- a task that ends after the close ran at the close or was spawned later: either way it does not live there
  too_late : (h : Past C) (j u t : ℕ) → Good k h (End u) → Sound k h → at h j ≡ Some (Close t) → innermost (behind h j) t ≡ home h u → ⊥
  too_late h j u t g s q z = let (n, i, x) = shut_at k h s j t q in x.empty u g.is_known g.runs (sym z ∙ i)

  -- an end is no close
  end_not_close : (u t : ℕ) {A : Type 0} → ◌≡◌ {A = Event C} (End u) (Close t) → A
  end_not_close u t e = cc

  pub end_sooner : (h : Past C) → Sound k h → (i j u t : ℕ) → at h i ≡ Some (End u) → at h j ≡ Some (Close t)
      → innermost (behind h j) t ≡ home h u → i < j
  end_sooner [] s i j u t a b z = cc
  end_sooner (f ∷ h) s i j u t a b z = elim (at_case h f i (End u) a) [
    | inl r ↦ grind (arith, nat_tests, too_late, behind_old)
    | inr r ↦ elim (at_case h f j (Close t) b) [
      | inl q ↦ omega arith
      | inr q ↦ end_sooner h s.1 i j u t r.1 q.1
          (ap (λ g. innermost g t) (sym (behind_old h f j q.0)) ∙ (z ∙ home_kept h f u s.0 (actor_known k h s.1 i (End u) r.1)))
    ]
  ]
