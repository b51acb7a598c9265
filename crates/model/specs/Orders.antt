-- What an order keeper means: its steps, which is before which, their serial order, its tasks and its finishes.
use Rattle.std.specs.Prelude.{ℕ, ◌+◌, Bool, true, false, cond, not, ◌&&◌, ◌||◌, List, [], ◌∷◌, ◌==◌, nat_lt}
use Rattle.model.specs.Lists.{any, head_or, rest, below, is_empty, put}

-- a task: whether it runs, its current step, and its finishes, the innermost first and the one it lives in last
pub record Task : Type 0 where
  pub running : Bool
  pub current : ℕ
  pub finishes : List ℕ

-- steps, tasks and finishes are numbered from 0 as they are made, and `steps`, `tasks` and `finishes` say how many there are
pub record Order : Type 0 where
  -- how many steps it may hold
  pub limit : ℕ
  pub steps : ℕ
  -- whether one step is before another, and whether it is earlier in serial order
  pub before : ℕ → ℕ → Bool
  pub earlier : ℕ → ℕ → Bool
  pub tasks : ℕ
  pub task : ℕ → Task
  pub finishes : ℕ
  -- whether the task u lives in the finish f, and whether l is the last step of a task that ended in f
  pub lives : ℕ → ℕ → Bool
  pub last : ℕ → ℕ → Bool

-- what is said of a task that is not held: it counts as ended, on step 0
abbrev pub no_task : Task
no_task = record { running = false; current = 0; finishes = [] }

-- at the start: step 0, current for running task 0, which lives in finish 0, the outer one
abbrev pub emptied : ℕ → Order
emptied limit = record {
  limit = limit;
  steps = 1;
  before = λ a b. false;
  earlier = λ a b. false;
  tasks = 1;
  task = λ t. cond (t == 0) (record { running = true; current = 0; finishes = 0 ∷ [] }) no_task;
  finishes = 1;
  lives = λ f t. (f == 0) && (t == 0);
  last = λ f s. false;
}

-- the held step by which the place of a in serial order is told: a itself if it is held, and s if it is new
abbrev anchor : Order → ℕ → ℕ → ℕ
anchor m s a = cond (nat_lt a m.steps) a s

-- serial order with `new` more steps that stand, in turn, straight after s
-- of two steps that are told by one place, the one that was made first is earlier
abbrev pub earlier_with : Order → ℕ → ℕ → ℕ → ℕ → Bool
earlier_with m s new a b =
    nat_lt a (m.steps + new) && (nat_lt b (m.steps + new)
    && cond (anchor m s a == anchor m s b) (nat_lt a b) (m.earlier (anchor m s a) (anchor m s b)))

-- the step s is a, or comes after a
abbrev pub at_or_after : Order → ℕ → ℕ → Bool
at_or_after m s a = a == s || m.before a s

-- a spawn makes a step for the child and then one for the spawner; its current step and all before that are before both
abbrev pub spawned : Order → ℕ → Order
spawned m t =
    let s : ℕ = (m.task t).current in
    let f : ℕ = head_or (m.task t).finishes 0 in
    record m {
      steps = m.steps + 2;
      before = λ a b. cond (b == m.steps || b == m.steps + 1) (at_or_after m s a) (m.before a b);
      earlier = earlier_with m s 2;
      tasks = m.tasks + 1;
      task = put (put m.task t (record (m.task t) { current = m.steps + 1 }))
          m.tasks (record { running = true; current = m.steps; finishes = f ∷ [] });
      lives = λ g u. (g == f && u == m.tasks) || m.lives g u;
    }

-- an open makes one step, with the current one and all before that before it
abbrev pub opened : Order → ℕ → Order
opened m t =
    let s : ℕ = (m.task t).current in
    record m {
      steps = m.steps + 1;
      before = λ a b. cond (b == m.steps) (at_or_after m s a) (m.before a b);
      earlier = earlier_with m s 1;
      task = put m.task t (record (m.task t) { current = m.steps; finishes = m.finishes ∷ (m.task t).finishes });
      finishes = m.finishes + 1;
    }

-- a close makes one step; before it are the current one, the last steps of the tasks that ended in the finish, and all before these
abbrev pub closed : Order → ℕ → Order
closed m t =
    let s : ℕ = (m.task t).current in
    let f : ℕ = head_or (m.task t).finishes 0 in
    record m {
      steps = m.steps + 1;
      before = λ a b. cond (b == m.steps)
          (at_or_after m s a || any (λ l. m.last f l && at_or_after m l a) (below m.steps)) (m.before a b);
      earlier = earlier_with m s 1;
      task = put m.task t (record (m.task t) { current = m.steps; finishes = rest (m.task t).finishes });
    }

-- an end makes no step; the task leaves the finish it lives in, and its current step joins the last steps there
abbrev pub done : Order → ℕ → Order
done m t =
    let s : ℕ = (m.task t).current in
    let f : ℕ = head_or (m.task t).finishes 0 in
    record m {
      task = put m.task t (record (m.task t) { running = false; finishes = [] });
      lives = λ g u. not (u == t) && m.lives g u;
      last = λ g l. (g == f && l == s) || m.last g l;
    }

-- What a call is refused for.

-- a task has ended, or is not held
abbrev pub gone : Order → ℕ → Bool
gone m t = not (m.task t).running

-- fewer than n steps are free
abbrev pub few : Order → ℕ → Bool
few m n = nat_lt m.limit (m.steps + n)

-- of a task's finishes, one is its own: all but the last are
abbrev pub has_own : List ℕ → Bool
has_own [] = false
has_own (f ∷ fs) = not (is_empty fs)

-- a task lives in the finish f
abbrev pub lived : Order → ℕ → Bool
lived m f = any (m.lives f) (below m.tasks)
