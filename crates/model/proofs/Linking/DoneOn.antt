-- The step that the event at a place was done on stays the same whatever follows; a task goes on after a spawn on a step of its own.
use Rattle.std.proofs.lemmas.Bool.Decides.{nat_tests}
use Rattle.std.proofs.Common.{◌≡◌, ℕ, ◌+◌, ◌<◌, cond, eqb, [], ◌∷◌, length, arith}
use Rattle.model.specs.declared.Event.{Event}
use Rattle.model.specs.Past.{Past, actor}
use Rattle.model.specs.Accesses.{CellKind}
use Rattle.model.specs.Orders.{Order}
use Rattle.model.specs.Link.{order_of}
use Rattle.model.proofs.Linking.PlaceSteps.{now, steps_grow, now_lt}

module _ {C : Type 0} (k : CellKind C) (lim : ℕ) where
  -- the order that the keeper means after a past
  abbrev keeper : Past C → Order
  keeper h = order_of lim h

  -- the step that the event at a place was done on
  abbrev pub done_on : Past C → ℕ → ℕ
  done_on [] i = 0
  done_on (e ∷ h) i = cond (eqb i (length h)) (now k lim h (actor e)) (done_on h i)

  pub done_on_old : (h : Past C) (e : Event C) (i : ℕ) → i < length h → done_on (e ∷ h) i ≡ done_on h i
  done_on_old h e i l = grind arith

  pub done_on_lt : (h : Past C) (i : ℕ) → i < length h → done_on h i < (keeper h).steps
  done_on_lt [] i l = absurd (omega arith)
  done_on_lt (e ∷ h) i l = grind (arith, nat_tests, done_on_lt h, now_lt k lim, steps_grow k lim)

  -- the step on which the task goes on that spawned at a place
  abbrev pub goes_on : Past C → ℕ → ℕ
  goes_on [] i = 0
  goes_on (e ∷ h) i = cond (eqb i (length h)) ((keeper h).steps + 1) (goes_on h i)

  pub goes_on_old : (h : Past C) (e : Event C) (i : ℕ) → i < length h → goes_on (e ∷ h) i ≡ goes_on h i
  goes_on_old h e i l = grind arith
