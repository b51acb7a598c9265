-- The program structure tree as a keeper's calls grow it, and what its labels say of the order.
use Rattle.std.specs.Prelude.{◌≡◌, ℕ, ◌+◌, ◌<◌, [], ◌∷◌}
use Rattle.model.specs.Lists.{head_or, put}
use Rattle.model.specs.Orders.{Order}
use Rattle.model.specs.Reached.{Reached, start, by_spawn, by_open, by_close, by_end}
use Rattle.model.specs.Labels.{Label, left, over, Under, child_of, next_of, inner_of}

-- the label of each step, and of each finish's node
pub record Tree : Type 0 where
  pub step : ℕ → Label
  pub finish : ℕ → Label

-- step 0 under the root
abbrev pub planted : Tree
planted = record { step = λ x. 0 ∷ []; finish = λ f. [] }

-- a spawn puts a task's node and then a step to the right of the current step
abbrev pub spawn_tree : Order → ℕ → Tree → Tree
spawn_tree m t w =
    let s : Label = w.step (m.task t).current in
    record w { step = put (put w.step m.steps (child_of s)) (m.steps + 1) (next_of s) }

-- an open puts a finish's node to the right of the current step, and a step under it
abbrev pub open_tree : Order → ℕ → Tree → Tree
open_tree m t w =
    let s : Label = w.step (m.task t).current in
    record { step = put w.step m.steps (inner_of s); finish = put w.finish m.finishes (next_of s) }

-- a close puts a step to the right of the finish's node
abbrev pub close_tree : Order → ℕ → Tree → Tree
close_tree m t w = record w { step = put w.step m.steps (next_of (w.finish (head_or (m.task t).finishes 0))) }

-- the tree that the calls grow which lead to an order
abbrev pub tree_of : {limit : ℕ} {m : Order} → Reached limit m → Tree
tree_of start = planted
tree_of (by_spawn m t r run) = spawn_tree m t (tree_of r)
tree_of (by_open m t r run) = open_tree m t (tree_of r)
tree_of (by_close m t f g fs r run own none) = close_tree m t (tree_of r)
tree_of (by_end m t f r run own) = tree_of r

-- labels that tell what an order says of its steps; the steps are leaves, each with a label of its own
pub record Labelled (m : Order) (lab : ℕ → Label) : Type 0 where
  pub before_is : (a b : ℕ) → a < m.steps → b < m.steps → m.before a b ≡ over (lab a) (lab b)
  pub earlier_is : (a b : ℕ) → a < m.steps → b < m.steps → m.earlier a b ≡ left (lab a) (lab b)
  pub apart : (a b : ℕ) → a < m.steps → b < m.steps → lab a ≡ lab b → a ≡ b
  pub leaf : (a b : ℕ) → a < m.steps → b < m.steps → Under (lab a) (lab b) → a ≡ b
