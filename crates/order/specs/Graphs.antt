-- The graph keeper: where its new steps hang, which order it means, and what holds of it from call to call.
use Rattle.std.specs.Prelude.{◌≡◌, ℕ, ◌+◌, ◌*◌, ◌/◌, ◌<◌}
use Rattle.model.specs.Orders.{Order}
use Rattle.model.specs.Labels.{left}
use Rattle.model.specs.Reached.{Reached}
use Rattle.order.specs.declared.record.Seat.{Seat}
use Rattle.order.specs.States.{State, place}
use Rattle.order.specs.Invariants.{Plain}
use Rattle.order.specs.Plans.{Plan, order_by}
use Rattle.edges.specs.Ways.{Ways, way, searched, ways_of}

-- A step x stands at the place 2 x + 1, and hangs from the step that it comes from, by the turn x. At the place 2 x stands, as if
-- it hung there, the finish that the step's task lives in.

-- the edges that are held
abbrev pub ways_in : State → Ways
ways_in st = record {
  from = λ x. (st.link (place x)).up / 2;
  home = λ x. (st.link (2 * x)).up;
  shut = λ f. (st.finish f).shut;
}

-- the new step x comes from the step s, of a task that lives in the finish f
abbrev pub comes_from : ℕ → ℕ → ℕ → Seat
comes_from x s f = record { node = record { up = f; turn = 0 }; leaf = record { up = place s; turn = x } }

-- a step of the same task as the step that it comes from
abbrev pub goes_on : State → ℕ → ℕ → Seat
goes_on st t x = comes_from x (st.task t).current (st.link (2 * (st.task t).current)).up

-- a new task's first step comes from the spawner's, and the task lives in the spawner's innermost finish; any other step goes on
abbrev pub graph_plan : Plan
graph_plan = record {
  child_seat = λ st t. comes_from st.steps (st.task t).current (st.task t).inner;
  next_seat = λ st t. goes_on st t (st.steps + 1);
  open_seat = λ st t. goes_on st t st.steps;
  close_seat = λ st t. goes_on st t st.steps;
  before = λ st. searched (ways_in st);
  earlier = λ st a b. left (way (ways_in st) a) (way (ways_in st) b);
}

abbrev pub graph_order : State → Order
graph_order = order_by graph_plan

-- a search can go on from every step
pub record Searchable (st : State) : Type 0 where
  pub falls : (x : ℕ) → 0 < x → x < st.steps → (ways_in st).from x < x
  pub homes : (x : ℕ) → x < st.steps → (ways_in st).home x < st.finishes

-- what holds from call to call: the order that it means is one that is reached, and its edges are those of the graph that was grown
pub record GraphSound (st : State) : Type 0 where
  pub plain : Plain st
  pub order : Order
  pub reach : Reached st.limit order
  pub means : graph_order st ≡ order
  pub from_told : (x : ℕ) → 0 < x → x < st.steps → (st.link (place x)) ≡ record { up = place ((ways_of reach).from x); turn = x }
  pub home_told : (x : ℕ) → x < st.steps → (st.link (2 * x)).up ≡ (ways_of reach).home x
  pub shut_told : (f : ℕ) → f < st.finishes → (st.finish f).shut ≡ (ways_of reach).shut f
  pub home_held : (x : ℕ) → x < st.steps → (st.link (2 * x)).up < st.finishes
