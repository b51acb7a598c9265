-- The tree keeper: where its new steps hang, which order it means, and what holds of it from call to call.
use Rattle.std.specs.Prelude.{◌≡◌, ℕ, ◌+◌, ◌-◌, ◌*◌, ◌<◌, cond, length, [], ◌∷◌, ◌==◌, suc}
use Rattle.model.specs.Orders.{Order}
use Rattle.model.specs.Labels.{Label, left, over}
use Rattle.model.specs.Reached.{Reached}
use Rattle.model.specs.Trees.{tree_of}
use Rattle.order.specs.declared.record.Link.{Link}
use Rattle.order.specs.declared.record.Seat.{Seat}
use Rattle.order.specs.Rows.{no_link}
use Rattle.order.specs.States.{State, place}
use Rattle.order.specs.Invariants.{Plain}
use Rattle.order.specs.Plans.{Plan, order_by}
use Rattle.order.specs.Forks.{label}

-- A step x stands at the place 2 x + 1. The node of a task or a finish stands at the place 2 x of the first step x in it.

-- the label of a step
abbrev pub step_label : State → ℕ → Label
step_label st x = label st.link (place x)

-- where the step hangs that a task is on
abbrev pub leaf_of : State → ℕ → Link
leaf_of st t = st.link (place (st.task t).current)

-- a new node to the right of the task's step, n turns on, with the new step in it
abbrev pub in_node : State → ℕ → ℕ → Seat
in_node st t n = record { node = record { up = (leaf_of st t).up; turn = (leaf_of st t).turn + n }; leaf = record { up = 2 * st.steps; turn = 0 } }

-- a new step to the right of what hangs by a link, two turns on; its place for a node is not used
abbrev pub right_of : Link → Seat
right_of l = record { node = no_link; leaf = record { up = l.up; turn = l.turn + 2 } }

-- a spawn makes a node for the task, with its first step in it, and a step to the right of that; an open makes a node for the finish,
-- with the task's next step in it; a close makes a step to the right of the finish's node, under which the task's step hangs
abbrev pub tree_plan : Plan
tree_plan = record {
  child_seat = λ st t. in_node st t 1;
  next_seat = λ st t. right_of (leaf_of st t);
  open_seat = λ st t. in_node st t 2;
  close_seat = λ st t. right_of (st.link (leaf_of st t).up);
  before = λ st a b. over (step_label st a) (step_label st b);
  earlier = λ st a b. left (step_label st a) (step_label st b);
}

abbrev pub tree_order : State → Order
tree_order = order_by tree_plan

-- the place p is a node with its first step under it
abbrev pub Node : State → ℕ → Type 0
Node st p = (x : ℕ) × (x < st.steps) × (p ≡ 2 * x) × (st.link (place x) ≡ record { up = 2 * x; turn = 0 })

-- what holds from call to call: the order that it means is one that is reached, and its labels are those of the tree that was grown
pub record TreeSound (st : State) : Type 0 where
  pub plain : Plain st
  pub order : Order
  pub reach : Reached st.limit order
  pub means : tree_order st ≡ order
  pub told : (x : ℕ) → x < st.steps → step_label st x ≡ (tree_of reach).step x
  -- whatever hangs, hangs from a node
  pub nodes : (p : ℕ) → p < 2 * st.steps → Node st (st.link p).up

-- the steps have the labels of the tree that some calls grow which lead to the order
pub record Grown (st : State) : Type 0 where
  pub reach : Reached st.limit (tree_order st)
  pub told : (x : ℕ) → x < st.steps → step_label st x ≡ (tree_of reach).step x

-- how many links two labels have in common, from the root
abbrev pub shared : Label → Label → ℕ
shared [] b = 0
shared (x ∷ a) [] = 0
shared (x ∷ a) (y ∷ b) = cond (x == y) (suc (shared a b)) 0

-- how many links are climbed from two steps to their lowest common ancestor: the depths of both, less twice its own
abbrev pub climbed : Label → Label → ℕ
climbed a b = length a + length b - 2 * shared a b
