-- The step of a place, and happens-before of two accesses by their steps.
use Rattle.std.proofs.lemmas.Bool.Decides.{nat_tests}
use Rattle.std.proofs.Common.{◌≡◌, ℕ, ◌<◌, T, ◌⊎◌, [], ◌∷◌, length, Some, sym, refl, ap, ◌∙◌, arith}
use Rattle.model.specs.declared.Event.{Event}
use Rattle.model.specs.declared.Event.TheVariants.{Spawn}
use Rattle.model.specs.Past.{Past, at, actor}
use Rattle.model.specs.Before.{before}
use Rattle.model.specs.Accesses.{CellKind, is_access}
use Rattle.model.specs.Orders.{Order}
use Rattle.model.specs.Reached.{Reached, OrderLaws}
use Rattle.model.specs.Link.{number, order_of, step_now, step_at}
use Rattle.model.proofs.Shelf.Places.{at_lt, at_case}
use Rattle.model.proofs.Linking.Sound.{Known, Sound}
use Rattle.model.proofs.Linking.PlaceSteps
use Rattle.model.proofs.Linking.PlaceSteps.{now, current_is, event_step, place_step_old}
use Rattle.model.proofs.Linking.Words.{at_keeper}
use Rattle.model.proofs.Linking.Steps.{upto_places, before_upto, upto_refl, upto_before}

-- the same order with another limit
abbrev pub relimit : ℕ → Order → Order
relimit l m = record {
  limit = l;
  steps = m.steps;
  before = m.before;
  earlier = m.earlier;
  tasks = m.tasks;
  task = m.task;
  finishes = m.finishes;
  lives = m.lives;
  last = m.last;
}

module _ {C : Type 0} where
  -- the limit plays no part in the order after a past
  pub limit_free : (l : ℕ) (h : Past C) → order_of l h ≡ relimit l (order_of 0 h)
  limit_free l [] = refl
  limit_free l (Spawn a u ∷ h) = ap (λ m. Rattle.model.specs.Orders.spawned m (number h a)) (limit_free l h)
  limit_free l (e ∷ h) = grind (arith, limit_free l h)

module _ {C : Type 0} (k : CellKind C) (lim : ℕ) where
  pub step_now_is : (h : Past C) → Sound k h → (t : ℕ) → Known k h t → step_now h t ≡ now k lim h t
  step_now_is h s t q = ap (λ (m : Order). (m.task (number h t)).current) (sym (limit_free lim h)) ∙ current_is k lim h s t q

  event_access : (h : Past C) (e : Event C) → T (is_access e) → event_step k lim h e ≡ now k lim h (actor e)
  event_access h (Spawn a u) q = absurd q
  event_access h e q = grind arith

  pub step_at_top : (h : Past C) (e : Event C) → step_at (e ∷ h) (length h) ≡ step_now h (actor e)
  step_at_top h e = grind arith

  pub step_at_old : (h : Past C) (e : Event C) (i : ℕ) → i < length h → step_at (e ∷ h) i ≡ step_at h i
  step_at_old h e i l = grind arith

  step_at_place : (h : Past C) → Sound k h → (i : ℕ) (d : Event C) → at h i ≡ Some d → T (is_access d)
      → step_at h i ≡ PlaceSteps.place_step k lim h i
  step_at_place [] s i d q a = cc
  step_at_place (e ∷ h) s i d q a = grind (arith, nat_tests, step_at_place h, at_case, step_at_top, step_now_is, event_access, step_at_old, place_step_old)

-- an access is before a later one exactly if they are on one step, or the keeper has its step before the other's
module _ {C : Type 0} (k : CellKind C) (lim : ℕ) (laws : (limit : ℕ) (m : Order) → Reached limit m → OrderLaws m) where
  open at_keeper k lim use {place_step, StepBefore}

  pub before_by_steps : (h : Past C) → Sound k h → (i j : ℕ) (d e : Event C) → at h i ≡ Some d → at h j ≡ Some e
      → T (is_access d) → T (is_access e) → T (before h i j) → (step_at h i ≡ step_at h j) ⊎ StepBefore h (step_at h i) (step_at h j)
  before_by_steps h s i j d e p q a b t = grind (arith, nat_tests, step_at_place k lim, before_upto k lim laws)

  pub steps_by_before : (h : Past C) → Sound k h → (i j : ℕ) (d e : Event C) → i < j → at h i ≡ Some d → at h j ≡ Some e
      → T (is_access d) → T (is_access e) → (step_at h i ≡ step_at h j) ⊎ StepBefore h (step_at h i) (step_at h j) → T (before h i j)
  steps_by_before h s i j d e l p q a b c = grind (arith, nat_tests, step_at_place k lim, upto_places k lim laws, at_lt, upto_refl k lim laws, upto_before k lim laws)
