-- Places of a past: what stands at one, and the past behind it.
use Rattle.std.proofs.Math.Facts.{or_yes}
use Rattle.std.proofs.lemmas.Bool.Decides.{nat_tests}
use Rattle.std.proofs.Common.{◌≡◌, ℕ, ◌<◌, Bool, T, ◌⊎◌, [], ◌∷◌, length, Some, refl, ◌∙◌, inl, inr, arith}
use Rattle.std.proofs.lemmas.Bool.{cases_eq}
use Rattle.model.specs.declared.Event.{Event}
use Rattle.model.specs.declared.Event.TheVariants.{Spawn, End}
use Rattle.model.specs.Lists.{any}
use Rattle.model.specs.Past.{Past, at, behind, ends}

module _ {C : Type 0} where
  -- an event that ends a task is its end
  pub ends_is : (u : ℕ) (d : Event C) → T (ends u d) → d ≡ End u
  ends_is u (Spawn t v) q = absurd q
  ends_is u e q = grind arith

  -- at the new place, at the top, and at an old place
  pub at_new : (h : Past C) (e : Event C) (i : ℕ) → i ≡ length h → at (e ∷ h) i ≡ Some e
  at_new h e i q = grind arith

  pub at_top : (h : Past C) (e : Event C) → at (e ∷ h) (length h) ≡ Some e
  at_top h e = at_new h e (length h) refl

  pub at_old : (h : Past C) (e : Event C) (i : ℕ) → i < length h → at (e ∷ h) i ≡ at h i
  at_old h e i l = grind arith

  pub at_lt : (h : Past C) (i : ℕ) (d : Event C) → at h i ≡ Some d → i < length h
  at_lt [] i d p = cc
  at_lt (e ∷ h) i d p = grind (arith, at_lt h)

  pub at_some : (h : Past C) (i : ℕ) → i < length h → (d : Event C) × (at h i ≡ Some d)
  at_some [] i l = absurd (omega arith)
  at_some (e ∷ h) i l = elim (cases_eq i (length h)) [
    | inl q ↦ (e, at_new h e i q)
    | inr n ↦ (let r = at_some h i (omega arith) in (r.0, at_old h e i (omega arith) ∙ r.1))
  ]

  -- what stands at a place of e ∷ h: e at the top, or an event of h
  pub at_case : (h : Past C) (e : Event C) (i : ℕ) (d : Event C) → at (e ∷ h) i ≡ Some d
      → ((i ≡ length h) × (e ≡ d)) ⊎ ((i < length h) × (at h i ≡ Some d))
  at_case h e i d p = grind (arith, nat_tests, at_lt)

  -- what stands at a place of h stands there in e ∷ h
  pub at_grow : (h : Past C) (e : Event C) (i : ℕ) (d : Event C) → at h i ≡ Some d → at (e ∷ h) i ≡ Some d
  at_grow h e i d p = at_old h e i (at_lt h i d p) ∙ p

  pub behind_new : (h : Past C) (e : Event C) (i : ℕ) → i ≡ length h → behind (e ∷ h) i ≡ h
  behind_new h e i q = grind arith

  pub behind_top : (h : Past C) (e : Event C) → behind (e ∷ h) (length h) ≡ h
  behind_top h e = behind_new h e (length h) refl

  pub behind_old : (h : Past C) (e : Event C) (i : ℕ) → i < length h → behind (e ∷ h) i ≡ behind h i
  behind_old h e i l = grind arith

  pub length_behind : (h : Past C) (i : ℕ) → i < length h → length (behind h i) ≡ i
  length_behind [] i l = absurd (omega arith)
  length_behind (e ∷ h) i l = grind (arith, nat_tests, length_behind h)

  pub at_behind : (h : Past C) (n i : ℕ) → n < length h → i < n → at (behind h n) i ≡ at h i
  at_behind [] n i l m = absurd (omega arith)
  at_behind (e ∷ h) n i l m = grind (arith, nat_tests, at_behind h)

  pub behind_behind : (h : Past C) (n i : ℕ) → n < length h → i < n → behind (behind h n) i ≡ behind h i
  behind_behind [] n i l m = absurd (omega arith)
  behind_behind (e ∷ h) n i l m = grind (arith, nat_tests, behind_behind h)

  -- a test on events holds of some event of a past
  pub any_at : (p : Event C → Bool) (h : Past C) → T (any p h) → (i : ℕ) × (d : Event C) × (at h i ≡ Some d) × T (p d)
  any_at p [] t = absurd t
  any_at p (e ∷ h) t = elim (or_yes (p e) (any p h) t) [
    | inl s ↦ (length h, e, at_top h e, s)
    | inr s ↦ (let r = any_at p h s in (r.0, r.1, at_grow h e r.0 r.1 r.2, r.3))
  ]

  pub at_any : (p : Event C → Bool) (h : Past C) (i : ℕ) (d : Event C) → at h i ≡ Some d → T (p d) → T (any p h)
  at_any p [] i d q t = cc
  at_any p (e ∷ h) i d q t = grind (arith, nat_tests, at_any p h)
