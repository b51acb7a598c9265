-- The tree that a list of calls grows, refused ones included.
use Rattle.std.specs.Prelude.{◌≡◌, ℕ, List, [], ◌∷◌}
use Rattle.model.specs.Orders.{Order, emptied}
use Rattle.model.specs.Trees.{Tree, planted, spawn_tree, open_tree, close_tree, tree_of}
use Rattle.order.specs.declared.replay.OrderCall.{OrderCall}
use Rattle.order.specs.declared.replay.OrderCall.TheVariants.{Spawn, Open, Close, End}
use Rattle.order.specs.Calls.{moved}
use Rattle.order.specs.States.{State, end_book}
use Rattle.order.specs.Plans.{spawn_by, open_by, close_by}
use Rattle.order.specs.Trees.{TreeSound, tree_plan, tree_order}
use Rattle.order.specs.Replays.{fault_of, after_call, after_calls}

-- what a call that is not refused makes of the tree; an end leaves it
abbrev pub tree_made : Order → OrderCall → Tree → Tree
tree_made m (Spawn t) w = spawn_tree m t w
tree_made m (Open t) w = open_tree m t w
tree_made m (Close t) w = close_tree m t w
tree_made m (End t) w = w

-- the tree after a call
abbrev pub tree_after_call : Order → Tree → OrderCall → Tree
tree_after_call m w c = moved (fault_of m c) w (tree_made m c w)

-- the tree that calls grow, in turn, from an order and its tree on
abbrev pub grown : Order → Tree → List OrderCall → Tree
grown m w [] = w
grown m w (c ∷ cs) = grown (after_call m c) (tree_after_call m w c) cs

-- the tree that calls grow from the start on
abbrev pub tree_after : ℕ → List OrderCall → Tree
tree_after limit cs = grown (emptied limit) planted cs

-- what a call that is not refused makes of a tree keeper's book
abbrev pub book_made : State → OrderCall → State
book_made st (Spawn t) = spawn_by tree_plan st t
book_made st (Open t) = open_by tree_plan st t
book_made st (Close t) = close_by tree_plan st t
book_made st (End t) = end_book st t

-- the book after a call
abbrev pub book_after_call : State → OrderCall → State
book_after_call st c = moved (fault_of (tree_order st) c) st (book_made st c)

-- a sound book, which stands for the order m; w is the tree that was grown
pub record Grew (st : State) (m : Order) (w : Tree) : Type 0 where
  pub sound : TreeSound st
  pub order_is : sound.order ≡ m
  pub tree_is : tree_of sound.reach ≡ w

-- the book is one to which calls lead, and their tree the one that was grown
abbrev pub GrewBy : State → ℕ → List OrderCall → Type 0
GrewBy st limit cs = ∥ Grew st (after_calls (emptied limit) cs) (tree_after limit cs) ∥₁
