-- The shape of a reached order: what holds of the labels of its steps, its finishes and its running tasks from call to call.
-- The proof of law 6 goes by it, and so can an implementation of the tree. No other law is stated in these words.
use Rattle.std.specs.Prelude.{◌≡◌, ℕ, suc, ◌<◌, not, T, ◌⊎◌, List, [], ◌∷◌, ◌++◌, ◌≢◌}
use Rattle.model.specs.Orders.{Order, Task, at_or_after}
use Rattle.model.specs.Labels.{Label, odd, Under, Low}
use Rattle.model.specs.Trees.{Tree, Labelled}

-- f is one of a task's finishes
abbrev pub In : ℕ → List ℕ → Type 0
In f [] = ⊥
In f (x ∷ xs) = (f ≡ x) ⊎ In f xs

-- g stands before f in a task's finishes: the task has opened g inside f
abbrev pub Above : ℕ → ℕ → List ℕ → Type 0
Above g f [] = ⊥
Above g f (x ∷ xs) = ((g ≡ x) × In f xs) ⊎ Above g f xs

-- every step and every finish turns below n at the node p
pub record Lows (m : Order) (lab node : ℕ → Label) (p : Label) (n : ℕ) : Type 0 where
  pub step_low : (x : ℕ) → x < m.steps → Low p n (lab x)
  pub node_low : (f : ℕ) → f < m.finishes → Low p n (node f)

-- the finishes of a task whose current step is a child of the node p, from the innermost:
-- each of its own has the node p and hangs, by an even turn with nothing to its right, from the node at which the next is looked at;
-- the last, which it lives in, has p under its node
abbrev pub Stack : Order → (ℕ → Label) → (ℕ → Label) → Label → List ℕ → Type 0
Stack m lab node p [] = ⊥
Stack m lab node p (h ∷ []) = Under (node h) p
Stack m lab node p (f ∷ (g ∷ fs)) =
    (q : Label) × (k : ℕ) × (p ≡ node f) × (node f ≡ q ++ (k ∷ [])) × T (not (odd k))
    × Lows m lab node q (suc k) × Stack m lab node q (g ∷ fs)

-- what holds of a running task t with the record k: `lab` and `node` are the labels of steps and finishes,
-- `by` says which task a step is of, `owner` which task opened a finish
pub record Runner (m : Order) (lab node : ℕ → Label) (by owner : ℕ → ℕ) (t : ℕ) (k : Task) : Type 0 where
  pub held : t < m.tasks
  pub current_held : k.current < m.steps
  pub current_by : by k.current ≡ t
  -- its current step is before no step, and is the last step of no task that has ended
  pub tip : (b : ℕ) → T (m.before k.current b) → ⊥
  pub going : (f l : ℕ) → T (m.last f l) → k.current ≢ l
  -- a finish of its list is its own, or the one that it lives in; it has opened each inside the next
  pub finish_held : (f : ℕ) → In f k.finishes → f < m.finishes
  pub seat : (f : ℕ) → In f k.finishes → (owner f ≡ t) ⊎ T (m.lives f t)
  pub owns : (g f : ℕ) → Above g f k.finishes → (owner g ≡ t) × (f < g)
  -- its current step is the rightmost child of a node, and every other step and finish under that node turns to the left of it
  pub path : Label
  pub turn : ℕ
  pub at : lab k.current ≡ path ++ (turn ∷ [])
  pub even : T (not (odd turn))
  pub step_low : (x : ℕ) → x < m.steps → (x ≢ k.current) → Low path turn (lab x)
  pub node_low : (f : ℕ) → f < m.finishes → Low path turn (node f)
  pub stack : Stack m lab node path k.finishes

-- the step x, which lies in the finish f:
-- a running task of f has come after it, or a task that ended in f has, or it lies in a finish inside f
abbrev pub Covered : Order → (ℕ → Label) → (ℕ → Label) → ℕ → ℕ → Type 0
Covered m lab node f x =
    ((u : ℕ) × T (m.task u).running × In f (m.task u).finishes × T (at_or_after m (m.task u).current x))
    ⊎ (((l : ℕ) × T (m.last f l) × T (at_or_after m l x))
    ⊎ ((u : ℕ) × (g : ℕ) × T (m.task u).running × Above g f (m.task u).finishes × Under (node g) (lab x)))

-- the shape of an order
pub record Shape (m : Order) (lab node : ℕ → Label) (by owner : ℕ → ℕ) : Type 0 where
  -- only steps that are held are before or earlier than one another, and the labels tell which
  pub before_held : (a b : ℕ) → T (m.before a b) → (a < m.steps) × (b < m.steps)
  pub earlier_held : (a b : ℕ) → T (m.earlier a b) → (a < m.steps) × (b < m.steps)
  pub labelled : Labelled m lab
  -- each finish has a node of its own
  pub node_apart : (f g : ℕ) → f < m.finishes → g < m.finishes → node f ≡ node g → f ≡ g
  -- the last steps of the tasks that ended in a finish lie in it
  pub last_held : (f l : ℕ) → T (m.last f l) → (f < m.finishes) × (l < m.steps)
  pub last_under : (f l : ℕ) → T (m.last f l) → Under (node f) (lab l)
  pub runner : (t : ℕ) → T (m.task t).running → Runner m lab node by owner t (m.task t)
  -- whatever lies in a finish that a running task has open is still awaited there
  pub covered : (v f x : ℕ) → T (m.task v).running → In f (m.task v).finishes → x < m.steps → Under (node f) (lab x)
      → Covered m lab node f x

-- an order has a tree in its shape, with some task for each step and for each finish
pub record Shaped (m : Order) (w : Tree) : Type 0 where
  pub by : ℕ → ℕ
  pub owner : ℕ → ℕ
  pub shape : Shape m w.step w.finish by owner
