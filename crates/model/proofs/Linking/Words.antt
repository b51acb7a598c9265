-- The words of this group at one keeper, so that each file says them in one line: its order, and the steps of tasks and of places.
use Rattle.std.proofs.Common.{ℕ, T}
use Rattle.model.specs.declared.Event.{Event}
use Rattle.model.specs.Past.{Past, Finish}
use Rattle.model.specs.Accesses.{CellKind}
use Rattle.model.specs.Orders.{Order}
use Rattle.model.specs.Link.{order_of}
use Rattle.model.proofs.Linking.Finishes
use Rattle.model.proofs.Linking.PlaceSteps
use Rattle.model.proofs.Linking.PlaceSteps.{is_upto}
use Rattle.model.proofs.Linking.DoneOn

-- what a section opens, to write `now h t` in place of `PlaceSteps.now k lim h t`
pub record Words (C : Type 0) : Type 1 where
  -- the order that the keeper means after a past
  pub keeper : Past C → Order
  -- the step that a task is on
  pub now : Past C → ℕ → ℕ
  -- the step of an event
  pub event_step : Past C → Event C → ℕ
  -- the step of a place
  pub place_step : Past C → ℕ → ℕ
  -- the step that the event at a place was done on
  pub done_on : Past C → ℕ → ℕ
  -- the step on which the spawner at a place goes on
  pub goes_on : Past C → ℕ → ℕ
  -- the task that a step belongs to
  pub owner : Past C → ℕ → ℕ
  -- the keeper's number of a finish
  pub finish_number : Past C → Finish → ℕ
  -- the step x is before the step y
  pub StepBefore : Past C → ℕ → ℕ → Type 0
  -- the step x is y, or before it
  pub Upto : Past C → ℕ → ℕ → Type 0
  -- the step x is earlier than the step y, in serial order
  pub StepEarlier : Past C → ℕ → ℕ → Type 0

-- these words at a keeper with the limit `lim`
abbrev pub at_keeper : {C : Type 0} → CellKind C → ℕ → Words C
at_keeper k lim =
    record {
      keeper = λ h. order_of lim h;
      now = λ h t. PlaceSteps.now k lim h t;
      event_step = λ h e. PlaceSteps.event_step k lim h e;
      place_step = λ h i. PlaceSteps.place_step k lim h i;
      done_on = λ h i. DoneOn.done_on k lim h i;
      goes_on = λ h i. DoneOn.goes_on k lim h i;
      owner = λ h x. PlaceSteps.owner k lim h x;
      finish_number = λ h f. Finishes.finish_number k lim h f;
      StepBefore = λ h x y. T ((order_of lim h).before x y);
      Upto = λ h x y. T (is_upto k lim h x y);
      StepEarlier = λ h x y. T ((order_of lim h).earlier x y);
    }
