-- What a keeper holds, apart from where its records lie; and how tasks and finishes change from call to call.
use Rattle.std.specs.Prelude.{◌≡◌, ℕ, suc, ◌+◌, ◌-◌, ◌*◌, ◌/◌, ◌%◌, ◌^◌, ◌<◌, ◌≤◌, Bool, true, false, cond, not, ◌&&◌, List, [], ◌∷◌, ◌==◌, nat_lt}
use Rattle.model.specs.Lists.{any, below, put}
use Rattle.model.specs.Orders.{Order, Task, no_task}
use Rattle.order.specs.declared.record.Link.{Link}
use Rattle.order.specs.declared.record.TaskRow.{TaskRow}
use Rattle.order.specs.declared.record.FinishRow.{FinishRow}
use Rattle.order.specs.declared.record.Seat.{Seat}
use Rattle.order.specs.declared.record.OrderRecord.{OrderRecord}
use Rattle.order.specs.declared.record.OrderRecord.TheVariants as kind
use Rattle.order.specs.declared.book.Book.{Book}
use Rattle.order.specs.Rows.{no_link, limit_of, row_of}

pub record State : Type 0 where
  -- how many steps it may hold, and how many steps, tasks and finishes it holds
  pub limit : ℕ
  pub steps : ℕ
  pub tasks : ℕ
  pub finishes : ℕ
  -- where each place hangs, each task, and each finish
  pub link : ℕ → Link
  pub task : ℕ → TaskRow
  pub finish : ℕ → FinishRow

-- the place of a step; the places of even number are for a keeper to use
abbrev pub place : ℕ → ℕ
place x = 2 * x + 1

-- where the records lie: those of the places 2 k and 2 k + 1, of the task k and of the finish k follow one another

abbrev pub link_at : ℕ → ℕ
link_at p = p / 2 * 4 + p % 2

abbrev pub task_at : ℕ → ℕ
task_at t = 4 * t + 2

abbrev pub finish_at : ℕ → ℕ
finish_at f = 4 * f + 3

-- what is read of a record

abbrev pub link_in : OrderRecord → Link
link_in (kind.Link l) = l
link_in r = no_link

abbrev pub task_in : OrderRecord → TaskRow
task_in (kind.Task k) = k
task_in r = record { running = false; current = 0; inner = 0; own = 0; home = 0 }

abbrev pub finish_in : OrderRecord → FinishRow
finish_in (kind.Finish f) = f
finish_in r = record { outer = 0; alive = 0; shut = 0 }

abbrev pub state_in : (ℕ → OrderRecord) → ℕ → ℕ → ℕ → ℕ → State
state_in row limit steps tasks finishes = record {
  limit = limit;
  steps = steps;
  tasks = tasks;
  finishes = finishes;
  link = λ p. link_in (row (link_at p));
  task = λ t. task_in (row (task_at t));
  finish = λ f. finish_in (row (finish_at f));
}

-- what a keeper's book holds
abbrev pub state_of : Book → State
state_of b = state_in (row_of b.rows) (limit_of b.rows) b.steps b.tasks b.finishes

-- the number k is one that the book has records for, and indices fit 64 bits
abbrev pub Room : State → ℕ → Type 0
Room st k = (k < st.limit) × (st.limit ≤ 2 ^ 62)

-- the numbers of a task's finishes: n of its own, from the innermost f on, and then the one that it lives in
abbrev pub chain : (ℕ → FinishRow) → ℕ → ℕ → List ℕ
chain fin ℕ.zero f = f ∷ []
chain fin (suc n) f = f ∷ chain fin n (fin f).outer

-- a task as an order has it
abbrev pub task_told : (ℕ → FinishRow) → TaskRow → Task
task_told fin k = record { running = k.running; current = k.current; finishes = cond k.running (chain fin k.own k.inner) [] }

-- the task lives in the finish f
abbrev pub lives_in : TaskRow → ℕ → Bool
lives_in k f = k.running && k.home == f

-- the task ended in the finish f, and l was its last step
abbrev pub ended_at : TaskRow → ℕ → ℕ → Bool
ended_at k f l = not k.running && (k.home == f && k.current == l)

-- the order that a book stands for, where `before` and `earlier` say how its steps stand
abbrev pub order_with : (ℕ → ℕ → Bool) → (ℕ → ℕ → Bool) → State → Order
order_with before earlier st = record {
  limit = st.limit;
  steps = st.steps;
  before = λ a b. nat_lt a st.steps && (nat_lt b st.steps && before a b);
  earlier = λ a b. nat_lt a st.steps && (nat_lt b st.steps && earlier a b);
  tasks = st.tasks;
  task = λ t. cond (nat_lt t st.tasks) (task_told st.finish (st.task t)) no_task;
  finishes = st.finishes;
  lives = λ f t. nat_lt t st.tasks && lives_in (st.task t) f;
  last = λ f l. any (λ t. ended_at (st.task t) f l) (below st.tasks);
}

-- what it says of tasks and finishes
abbrev pub tasks_told : State → Order
tasks_told = order_with (λ a b. false) (λ a b. false)

-- a book with step 0, task 0 and the outer finish, and nothing else; step 0 hangs from place 0
pub record Cleared (limit : ℕ) (st : State) : Type 0 where
  pub limit_is : st.limit ≡ limit
  pub steps_is : st.steps ≡ 1
  pub tasks_is : st.tasks ≡ 1
  pub finishes_is : st.finishes ≡ 1
  pub node_is : st.link 0 ≡ no_link
  pub leaf_is : st.link 1 ≡ no_link
  pub task_is : st.task 0 ≡ record { running = true; current = 0; inner = 0; own = 0; home = 0 }
  pub finish_is : st.finish 0 ≡ record { outer = 0; alive = 1; shut = 0 }

abbrev pub tasks_in : Book → Order
tasks_in b = tasks_told (state_of b)

-- Calls of a book, whichever keeper it is of. Only where new steps hang is for the keeper to say.

-- the two places of the step x hang as it is seated
abbrev pub seated : (ℕ → Link) → ℕ → Seat → ℕ → Link
seated link x seat = put (put link (2 * x) seat.node) (place x) seat.leaf

-- a new task lives in the spawner's innermost finish, on the first new step, and the spawner is on the second
abbrev pub spawn_book : State → ℕ → Seat → Seat → State
spawn_book st t child next =
    let k : TaskRow = st.task t in
    record st {
      steps = st.steps + 2;
      tasks = st.tasks + 1;
      link = seated (seated st.link st.steps child) (st.steps + 1) next;
      task = put (put st.task t (record k { current = st.steps + 1 })) st.tasks
          (record { running = true; current = st.steps; inner = k.inner; own = 0; home = k.inner });
      finish = put st.finish k.inner (record (st.finish k.inner) { alive = (st.finish k.inner).alive + 1 });
    }

-- a new finish is the task's innermost, on the new step
abbrev pub open_book : State → ℕ → Seat → State
open_book st t next =
    let k : TaskRow = st.task t in
    record st {
      steps = st.steps + 1;
      finishes = st.finishes + 1;
      link = seated st.link st.steps next;
      task = put st.task t (record k { current = st.steps; inner = st.finishes; own = k.own + 1 });
      finish = put st.finish st.finishes (record { outer = k.inner; alive = 0; shut = 0 });
    }

-- the new step closes the task's innermost finish; the one around it is innermost then
abbrev pub close_book : State → ℕ → Seat → State
close_book st t next =
    let k : TaskRow = st.task t in
    record st {
      steps = st.steps + 1;
      link = seated st.link st.steps next;
      task = put st.task t (record k { current = st.steps; inner = (st.finish k.inner).outer; own = k.own - 1 });
      finish = put st.finish k.inner (record (st.finish k.inner) { shut = st.steps });
    }

-- the task lives nowhere
abbrev pub end_book : State → ℕ → State
end_book st t =
    let k : TaskRow = st.task t in
    record st {
      task = put st.task t (record k { running = false });
      finish = put st.finish k.inner (record (st.finish k.inner) { alive = (st.finish k.inner).alive - 1 });
    }
