-- How a past moves an order keeper: the order that a keeper means after the events of a past, and what it says of these events.
use Rattle.std.specs.Prelude.{◌≡◌, ℕ, ◌+◌, ◌<◌, Bool, false, cond, T, ◌⊎◌, ◌↔◌, List, [], ◌∷◌, length, Some, Option, ◌==◌}
use Rattle.model.specs.declared.Event.{Event}
use Rattle.model.specs.declared.Event.TheVariants.{Spawn, End, Open, Close}
use Rattle.model.specs.declared.Race.{Race}
use Rattle.model.specs.Lists.{mem, some_or}
use Rattle.model.specs.Past.{Past, at, behind, actor, makes, spawned_tasks}
use Rattle.model.specs.Before.{before, serial}
use Rattle.model.specs.Accesses.{CellKind, is_access}
use Rattle.model.specs.Rules.{Limits}
use Rattle.model.specs.Laws.{Outcome}
use Rattle.model.specs.Orders.{Order, emptied, spawned, opened, closed, done}
use Rattle.model.specs.Reached.{Reached}

-- the number that a keeper gives a task: task 0 has 0, and the n-th spawned task n
abbrev pub number : {C : Type 0} → Past C → ℕ → ℕ
number [] u = 0
number (e ∷ h) u = cond (makes u e) (length (spawned_tasks h) + 1) (number h u)

-- how an event moves the order
abbrev pub moved : {C : Type 0} → Past C → Order → Event C → Order
moved h m (Spawn t u) = spawned m (number h t)
moved h m (End t) = done m (number h t)
moved h m (Open t) = opened m (number h t)
moved h m (Close t) = closed m (number h t)
moved h m e = m

-- the order after a past
abbrev pub order_of : {C : Type 0} → ℕ → Past C → Order
order_of limit [] = emptied limit
order_of limit (e ∷ h) = moved h (order_of limit h) e

-- the step that a task is on; the limit plays no part in it
abbrev pub step_now : {C : Type 0} → Past C → ℕ → ℕ
step_now h t = ((order_of 0 h).task (number h t)).current

-- the step that the event at a place was done on
abbrev pub step_at : {C : Type 0} → Past C → ℕ → ℕ
step_at h i = some_or (λ e. step_now (behind h i) (actor e)) 0 (at h i)

-- how often i is in a list
abbrev pub count : ℕ → List ℕ → ℕ
count i [] = 0
count i (x ∷ xs) = cond (i == x) 1 0 + count i xs

-- i stands ahead of j in a list with the earliest first, as serial order is
abbrev pub stands : List ℕ → ℕ → ℕ → Bool
stands [] i j = false
stands (x ∷ xs) i j = cond (x == i) (mem j xs) (stands xs i j)

-- what the order after a past says of the events of the past
pub record Linked {C : Type 0} (limit : ℕ) (h : Past C) : Type 0 where
  -- the keeper's own calls lead there
  pub reached : Reached limit (order_of limit h)
  -- of two accesses one is before the other exactly when both are on one step, or its step is before the other's
  pub before_is : (i j : ℕ) (d e : Event C) → i < j → at h i ≡ Some d → at h j ≡ Some e → T (is_access d) → T (is_access e)
      → T (before h i j) ↔ ((step_at h i ≡ step_at h j) ⊎ T ((order_of limit h).before (step_at h i) (step_at h j)))
  -- serial order has each place once, by the serial order of steps, and on one step as recorded
  pub serial_once : (i : ℕ) → i < length h → count i (serial h) ≡ 1
  pub serial_places : (i : ℕ) → T (mem i (serial h)) → i < length h
  pub serial_is : (i j : ℕ) → i < length h → j < length h
      → T (stands (serial h) i j) ↔ (T ((order_of limit h).earlier (step_at h i) (step_at h j)) ⊎ ((step_at h i ≡ step_at h j) × (i < j)))

-- the order after a past with an outcome tells of its events
abbrev pub StepsTell : {C : Type 0} → CellKind C → Limits → Type 0
StepsTell {C} k l = (h : Past C) (m : Option (Race C)) → Outcome k l h m → Linked l.steps h
