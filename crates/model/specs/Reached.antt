-- The orders that a keeper's own calls can reach, and what holds of each of them.
use Rattle.std.specs.Prelude.{◌≡◌, ℕ, ◌<◌, ◌≤◌, T, ◌⊎◌, List, [], ◌∷◌, ◌≢◌}
use Rattle.model.specs.Lists.{mem}
use Rattle.model.specs.Orders.{Order, emptied, spawned, opened, closed, done}

-- calls of running tasks: a close needs a finish of its own open in which no task lives, an end needs none open
-- the step limit is not looked at: what holds of these orders holds past it too
pub data Reached (limit : ℕ) : Order → Type 0 where
  start : Reached limit (emptied limit)
  by_spawn : (m : Order) (t : ℕ) → Reached limit m → T (m.task t).running → Reached limit (spawned m t)
  by_open : (m : Order) (t : ℕ) → Reached limit m → T (m.task t).running → Reached limit (opened m t)
  by_close : (m : Order) (t f g : ℕ) (fs : List ℕ) → Reached limit m → T (m.task t).running → (m.task t).finishes ≡ f ∷ (g ∷ fs)
      → ((u : ℕ) → T (m.lives f u) → ⊥) → Reached limit (closed m t)
  by_end : (m : Order) (t f : ℕ) → Reached limit m → T (m.task t).running → (m.task t).finishes ≡ f ∷ [] → Reached limit (done m t)

-- what holds of a reached order
pub record OrderLaws (m : Order) : Type 0 where
  -- only steps that are held are before or earlier than one another
  pub before_held : (a b : ℕ) → T (m.before a b) → (a < m.steps) × (b < m.steps)
  pub earlier_held : (a b : ℕ) → T (m.earlier a b) → (a < m.steps) × (b < m.steps)
  pub before_trans : (a b c : ℕ) → T (m.before a b) → T (m.before b c) → T (m.before a c)
  pub before_earlier : (a b : ℕ) → T (m.before a b) → T (m.earlier a b)
  pub earlier_trans : (a b c : ℕ) → T (m.earlier a b) → T (m.earlier b c) → T (m.earlier a c)
  pub earlier_irrefl : (a : ℕ) → T (m.earlier a a) → ⊥
  pub earlier_total : (a b : ℕ) → a < m.steps → b < m.steps → (a ≢ b) → T (m.earlier a b) ⊎ T (m.earlier b a)
  -- there are no more tasks than steps, and no more finishes
  pub tasks_within : m.tasks ≤ m.steps
  pub finishes_within : m.finishes ≤ m.steps
  -- a running task is held, and so are its finishes
  pub task_held : (t : ℕ) → T (m.task t).running → t < m.tasks
  pub finish_held : (t f : ℕ) → T (m.task t).running → T (mem f (m.task t).finishes) → f < m.finishes
  -- the step that a running task is on is held, and is before no step
  pub current_held : (t : ℕ) → T (m.task t).running → (m.task t).current < m.steps
  pub current_last : (t b : ℕ) → T (m.task t).running → T (m.before (m.task t).current b) → ⊥
  -- of a, b and c in serial order, with a not before b: if a is before c, then so is b
  pub between : (a b c : ℕ) → T (m.earlier a b) → T (m.earlier b c) → (T (m.before a b) → ⊥) → T (m.before a c) → T (m.before b c)
