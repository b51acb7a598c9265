-- Two events of one task: the steps from each of its events to the next lead from the first to the second.
use Rattle.std.proofs.Math.Facts.{yes_and, yes_eqb}
use Rattle.std.proofs.lemmas.Bool.Decides.{nat_tests}
use Rattle.std.proofs.Common.{◌≡◌, ℕ, suc, ◌+◌, ◌<◌, ◌≤◌, Bool, false, ◌&&◌, T, eqb, ltb, ◌⊎◌, Some, inl, inr, arith, lt→ltb}
use Rattle.model.specs.declared.Event.{Event}
use Rattle.model.specs.Lists.{any, below, some_or}
use Rattle.model.specs.Past.{Past, at, actor}
use Rattle.model.specs.Before.{NoneBetween, Told, to_next, through}
use Rattle.model.proofs.Shelf.Tests.{some_or_in, tried}
use Rattle.model.proofs.Shelf.Lists.{any_below_in, any_below_of}

module _ {C : Type 0} where
  -- an event of the task t that stands between two places
  abbrev OneBetween : Past C → ℕ → ℕ → ℕ → Type 0
  OneBetween h t i j = (p : ℕ) × (d : Event C) × (i < p) × (p < j) × (at h p ≡ Some d) × (actor d ≡ t)

  -- whether the event at the place p is one of the task t
  abbrev acts_at : Past C → ℕ → ℕ → Bool
  acts_at h t p = some_or (λ d. eqb (actor d) t) false (at h p)

  -- and p stands past i
  abbrev acts_past : Past C → ℕ → ℕ → ℕ → Bool
  acts_past h t i p = ltb i p && acts_at h t p

  some_between : (h : Past C) (t i j : ℕ) → T (any (acts_past h t i) (below j)) → OneBetween h t i j
  some_between h t i j q = grind (arith, any_below_of)

  nothing_between : (h : Past C) (t i j : ℕ) → (T (any (acts_past h t i) (below j)) → ⊥) → NoneBetween h t i j
  nothing_between h t i j n p d a b q e =
      let own : T (acts_at h t p) = some_or_in (λ d. eqb (actor d) t) (at h p) d q (yes_eqb e) in
      n (any_below_in (acts_past h t i) j p b (yes_and (ltb i p) (acts_at h t p) (lt→ltb i p a) own))

  between : (h : Past C) (t i j : ℕ) → OneBetween h t i j ⊎ NoneBetween h t i j
  between h t i j = elim (tried (any (acts_past h t i) (below j))) [
    | inl q ↦ inl (some_between h t i j q)
    | inr n ↦ inr (nothing_between h t i j n)
  ]

  -- n bounds how far apart the two places are
  chain_in : (n : ℕ) (h : Past C) (i j : ℕ) (d e : Event C) → j ≤ i + n → i < j
      → at h i ≡ Some d → at h j ≡ Some e → actor d ≡ actor e → Told h i j
  chain_in ℕ.zero h i j d e l q a b t = absurd (omega arith)
  chain_in (suc n) h i j d e l q a b t = elim (between h (actor d) i j) [
    | inl r ↦ grind (arith, nat_tests, chain_in n, through)
    | inr r ↦ to_next i j d e q a b t r
  ]

  pub chain : (h : Past C) (i j : ℕ) (d e : Event C) → i < j → at h i ≡ Some d → at h j ≡ Some e → actor d ≡ actor e → Told h i j
  chain h i j d e q a b t = chain_in j h i j d e (omega arith) q a b t
