-- What a keeper means, and what the tree keeper's relation says.
use Rattle.std.specs.Prelude.{ℕ, ◌&&◌, cond, nat_lt}
use Rattle.model.specs.Orders.{Order}
use Rattle.model.specs.Labels.{Label}
use Rattle.order.specs.declared.step_keeper.StepKeeper.{StepKeeper}
use Rattle.order.specs.declared.tree.Relation.{Relation}
use Rattle.order.specs.States.{state_of}
use Rattle.order.specs.Plans.{Plan, order_by}
use Rattle.order.specs.Trees.{step_label, Grown, climbed}

-- the order that a keeper means which goes by a plan
abbrev pub meaning_by : {A : _} {P : _} → Plan → StepKeeper A P → Order
meaning_by p k = order_by p (state_of k.book)

-- the labels of a keeper's steps, as its links have them
abbrev pub labels_of : {A : _} {P : _} → StepKeeper A P → ℕ → Label
labels_of k = step_label (state_of k.book)

-- its tree is one that some calls grow which lead to the order that it means
abbrev pub TreeGrown : {A : _} {P : _} → StepKeeper A P → Type 0
TreeGrown k = ∥ Grown (state_of k.book) ∥₁

-- how two steps stand, in an order whose steps have the labels `lab`
abbrev pub relation_in : Order → (ℕ → Label) → ℕ → ℕ → Relation
relation_in m lab a b = record {
  before = m.before a b;
  earlier = m.earlier a b;
  links = cond (nat_lt a m.steps && nat_lt b m.steps) (climbed (lab a) (lab b)) 0;
}
