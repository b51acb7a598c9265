-- Happens before: what the latest event is after, and that the test and the relation are one.
use Rattle.std.proofs.Math.Facts.{or_yes, yes_and}
use Rattle.std.proofs.lemmas.Bool.Decides.{nat_tests}
use Rattle.std.proofs.Common.{◌≡◌, ℕ, ◌<◌, Bool, false, ◌&&◌, ◌||◌, T, eqb, [], ◌∷◌, length, Some, sym, refl, ◌∙◌, subst, inl, inr, arith, eqb→eq}
use Rattle.std.proofs.lemmas.Bool.{cases_eq}
use Rattle.model.specs.declared.Event.{Event}
use Rattle.model.specs.Lists.{some_or}
use Rattle.model.specs.Past.{Past, at, behind}
use Rattle.model.specs.Before.{leads, before, HappensBefore, direct, through}
use Rattle.model.proofs.Shelf.Tests.{cond_eq, some_or_in}
use Rattle.model.proofs.Shelf.Lists.{any_below_of, any_below_in}
use Rattle.model.proofs.Shelf.Places.{at_top, at_old, at_lt, at_case, at_grow, behind_top, behind_old}

module _ {C : Type 0} where
  pub before_old : (h : Past C) (e : Event C) (i j : ℕ) → j < length h → before (e ∷ h) i j ≡ before h i j
  before_old h e i j l = grind arith

  -- an event of h that leads to the next event e, and that i is or is before
  abbrev pub Lead : Past C → Event C → ℕ → Type 0
  Lead h e i = (k : ℕ) × (d : Event C) × (at h k ≡ Some d) × T (leads h d e) × T (eqb i k || before h i k)

  abbrev step : Past C → Event C → ℕ → ℕ → Bool
  step h e i k = some_or (λ d. leads h d e) false (at h k) && (eqb i k || before h i k)

  pub before_lead : (h : Past C) (e : Event C) (i : ℕ) → T (before (e ∷ h) i (length h)) → Lead h e i
  before_lead h e i t = grind (arith, nat_tests, any_below_of)

  pub lead_before : (h : Past C) (e : Event C) (i : ℕ) → Lead h e i → T (before (e ∷ h) i (length h))
  lead_before h e i (k, d, p, l, b) =
      subst T (sym (cond_eq (length h) (length h) _ _ refl))
      (any_below_in (step h e i) (length h) k (at_lt h k d p)
      (yes_and (some_or (λ d. leads h d e) false (at h k)) (eqb i k || before h i k) (some_or_in (λ d. leads h d e) (at h k) d p l) b))

  -- a place that is before another is earlier in the past, and both are places
  pub before_lt : (h : Past C) (i j : ℕ) → T (before h i j) → (i < j) × (j < length h)
  before_lt [] i j t = absurd t
  before_lt (e ∷ h) i j t = grind (arith, nat_tests, before_lt h, before_lead, at_lt)

  pub before_trans : (h : Past C) (i j l : ℕ) → T (before h i j) → T (before h j l) → T (before h i l)
  before_trans [] i j l p q = absurd p
  before_trans (e ∷ h) i j l p q = grind (arith, nat_tests, before_trans h, before_lt, before_old, before_lead, lead_before)

  pub happens_grow : (h : Past C) (e : Event C) (i j : ℕ) → HappensBefore h i j → HappensBefore (e ∷ h) i j
  happens_grow h e i j (direct _ _ d f l p q t) =
      direct i j d f l (at_grow h e i d p) (at_grow h e j f q) (subst (λ g. T (leads g d f)) (sym (behind_old h e j (at_lt h j f q))) t)
  happens_grow h e i j (through _ m _ a b) = through i m j (happens_grow h e i m a) (happens_grow h e m j b)

  pub before_of : (h : Past C) (i j : ℕ) → T (before h i j) → HappensBefore h i j
  before_of [] i j b = absurd b
  before_of (e ∷ h) i j b = elim (cases_eq j (length h)) [
    | inl p ↦ (let r = before_lead h e i (subst (λ x. T (before (e ∷ h) i x)) p b) in
        let lk = at_lt h r.0 r.1 r.2 in
        let last : HappensBefore (e ∷ h) r.0 (length h) = direct r.0 (length h) r.1 e lk (at_grow h e r.0 r.1 r.2) (at_top h e)
        (subst (λ g. T (leads g r.1 e)) (sym (behind_top h e)) r.3) in
        subst (λ x. HappensBefore (e ∷ h) i x) (sym p) (elim (or_yes (eqb i r.0) (before h i r.0) r.4) [
          | inl z ↦ subst (λ x. HappensBefore (e ∷ h) x (length h)) (sym (eqb→eq i r.0 z)) last
          | inr z ↦ through i r.0 (length h) (happens_grow h e i r.0 (before_of h i r.0 z)) last
        ]))
    | inr n ↦ grind (arith, nat_tests, before_of h, happens_grow)
  ]

  direct_before : (h : Past C) (i j : ℕ) (d f : Event C) → i < j → at h i ≡ Some d → at h j ≡ Some f → T (leads (behind h j) d f) → T (before h i j)
  direct_before [] i j d f l p q t = cc
  direct_before (e ∷ h) i j d f l p q t = elim (at_case h e j f q) [
    | inl r ↦ grind (arith, nat_tests, lead_before, at_old)
    | inr r ↦ (let li : i < length h = (let z = r.0 in omega arith) in
        subst T (sym (before_old h e i j r.0))
        (direct_before h i j d f l (sym (at_old h e i li) ∙ p) r.1 (subst (λ g. T (leads g d f)) (behind_old h e j r.0) t)))
  ]

  pub before_in : (h : Past C) (i j : ℕ) → HappensBefore h i j → T (before h i j)
  before_in h i j (direct _ _ d f l p q t) = direct_before h i j d f l p q t
  before_in h i j (through _ m _ a b) = before_trans h i m j (before_in h i m a) (before_in h m j b)

  pub happens_lt : (h : Past C) (i j : ℕ) → HappensBefore h i j → (i < j) × (j < length h)
  happens_lt h i j b = before_lt h i j (before_in h i j b)
