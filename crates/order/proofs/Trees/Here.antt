-- The step that a running task of a sound tree is on: where it hangs, its label in the tree that was grown, and what that tree has for
-- a new step to the right of it.
use Rattle.std.proofs.lemmas.Bool.{cases_eq, cond-true, lt-ltb}
use Rattle.std.proofs.lemmas.List.{length_push}
use Rattle.std.proofs.Common.{◌≡◌, ℕ, suc, ◌+◌, ◌*◌, ◌<◌, ◌≤◌, true, T, ◌⊎◌, inl, inr, List, [], ◌∷◌, ◌++◌, length, sym, ap, ◌∙◌, subst, nat_lt, arith}
use Rattle.model.specs.Orders.{Order, Task, no_task}
use Rattle.model.specs.Labels.{Label, child_of, next_of, inner_of}
use Rattle.model.specs.Trees.{Tree, tree_of}
use Rattle.model.specs.Shapes.{Stack, Shaped, Runner}
use Rattle.model.proofs.Trees.Labels.{turned_at}
use Rattle.model.proofs.Trees.Reached.{reached_shape}
use Rattle.order.specs.declared.record.Link.{Link}
use Rattle.order.specs.States.{State, place, task_told}
use Rattle.order.specs.Forks.{label}
use Rattle.order.specs.Trees.{TreeSound, Node, leaf_of, in_node, right_of}
use Rattle.order.proofs.Books.Telling.{Fits}
use Rattle.order.proofs.Climbs.Places.{label_up, before_turn}

-- the label of the place that a task's step hangs from
abbrev pub front : State → ℕ → Label
front st t = label st.link (leaf_of st t).up

pub record Here (st : State) (w : TreeSound st) (t : ℕ) : Type 0 where
  pub now_held : (st.task t).current < st.steps
  pub hung : (leaf_of st t).up < place (st.task t).current
  pub turn_fits : (leaf_of st t).turn ≤ 2 * (st.task t).current
  -- it hangs from a node; the root is one
  pub node : Node st (leaf_of st t).up
  pub root : Node st 0
  -- the same in the order that is meant
  pub steps_is : st.steps ≡ w.order.steps
  pub task_is : w.order.task t ≡ task_told st.finish (st.task t)
  pub run : T (w.order.task t).running
  pub at : (tree_of w.reach).step (w.order.task t).current ≡ front st t ++ ((leaf_of st t).turn ∷ [])

pub here : (st : State) (w : TreeSound st) (t : ℕ) → t < st.tasks → (st.task t).running ≡ true → Here st w t
here st w t held runs = record {
  now_held = now_held;
  hung = hung;
  turn_fits = let k = w.plain.turned (place now) small in omega arith;
  node = w.nodes (place now) small;
  root =
      let p = w.plain.steps_held in
      let z = w.plain.hung 1 (omega arith) (omega arith) in
      subst (Node st) (omega arith) (w.nodes 1 (omega arith));
  steps_is = ap Order.steps w.means;
  task_is = task_is;
  run = subst T (sym (ap Task.running task_is ∙ runs)) tt;
  at = ap (λ (k : Task). (tree_of w.reach).step k.current) task_is ∙ (sym (w.told now now_held) ∙ label_up st.link (place now) hung);
}
  where
    now : ℕ
    now = (st.task t).current

    now_held : now < st.steps
    now_held = w.plain.current_held t held

    small : place now < 2 * st.steps
    small = omega (arith, now_held)

    hung : (leaf_of st t).up < place now
    hung = w.plain.hung (place now) (omega arith) small

    task_is : w.order.task t ≡ task_told st.finish (st.task t)
    task_is =
        ap (λ (o : Order). o.task t) (sym w.means)
        ∙ cond-true (nat_lt t st.tasks) (task_told st.finish (st.task t)) no_task (lt-ltb t st.tasks held)

-- labels to the right of one that ends by the turn k

child_turn : (a p : Label) (k : ℕ) → a ≡ p ++ (k ∷ []) → child_of a ≡ p ++ ((k + 1) ∷ (0 ∷ []))
child_turn a p k e = ap child_of e ∙ (turned_at (λ n. suc n ∷ (0 ∷ [])) p k ∙ ap (λ n. p ++ (n ∷ (0 ∷ []))) (omega arith))

pub next_turn : (a p : Label) (k : ℕ) → a ≡ p ++ (k ∷ []) → next_of a ≡ p ++ ((k + 2) ∷ [])
next_turn a p k e = ap next_of e ∙ (turned_at (λ n. suc (suc n) ∷ []) p k ∙ ap (λ n. p ++ (n ∷ [])) (omega arith))

inner_turn : (a p : Label) (k : ℕ) → a ≡ p ++ (k ∷ []) → inner_of a ≡ p ++ ((k + 2) ∷ (0 ∷ []))
inner_turn a p k e = ap inner_of e ∙ (turned_at (λ n. suc (suc n) ∷ (0 ∷ [])) p k ∙ ap (λ n. p ++ (n ∷ (0 ∷ []))) (omega arith))

-- what stands to the right of an old place fits
pub right_fits : (l : Link) (x : ℕ) → l.up < 2 * x + 1 → l.turn + 2 ≤ 2 * x → Fits x (right_of l)
right_fits l x a b = record { node_up = λ p. omega arith; node_turn = omega arith; leaf_up = omega arith; leaf_turn = omega arith }

module _ {st : State} {w : TreeSound st} {t : ℕ} (h : Here st w t) where
  abbrev here_label : Label
  here_label = (tree_of w.reach).step (w.order.task t).current

  pub child_at : child_of here_label ≡ front st t ++ (((leaf_of st t).turn + 1) ∷ (0 ∷ []))
  child_at = child_turn here_label (front st t) (leaf_of st t).turn h.at

  pub next_at : next_of here_label ≡ front st t ++ (((leaf_of st t).turn + 2) ∷ [])
  next_at = next_turn here_label (front st t) (leaf_of st t).turn h.at

  pub inner_at : inner_of here_label ≡ front st t ++ (((leaf_of st t).turn + 2) ∷ (0 ∷ []))
  inner_at = inner_turn here_label (front st t) (leaf_of st t).turn h.at

  pub up_old : (leaf_of st t).up < 2 * st.steps
  up_old = omega arith

  -- a node to the right of the step fits
  pub in_fits : (n : ℕ) → n ≤ 2 → Fits st.steps (in_node st t n)
  in_fits n l = record { node_up = λ p. omega arith; node_turn = omega arith; leaf_up = omega arith; leaf_turn = omega arith }

  -- the step hangs from the node of the task's innermost finish, if that is its own; and this is not the root
  pub in_finish : (f g : ℕ) (fs : List ℕ) → (w.order.task t).finishes ≡ f ∷ (g ∷ fs)
      → (front st t ≡ (tree_of w.reach).finish f) × (0 < (leaf_of st t).up)
  in_finish f g fs own = (front_is, some (cases_eq (leaf_of st t).up 0))
    where
      grown : Tree
      grown = tree_of w.reach

      shaped : Shaped w.order grown
      shaped = reached_shape st.limit w.order w.reach

      runner : Runner w.order grown.step grown.finish shaped.by shaped.owner t (w.order.task t)
      runner = shaped.shape.runner t h.run

      stack : Stack w.order grown.step grown.finish runner.path (f ∷ (g ∷ fs))
      stack = subst (Stack w.order grown.step grown.finish runner.path) own runner.stack

      front_is : front st t ≡ grown.finish f
      front_is = before_turn (front st t) runner.path (leaf_of st t).turn runner.turn (sym h.at ∙ runner.at) ∙ stack.2

      some : ((leaf_of st t).up ≡ 0) ⊎ ((leaf_of st t).up ≡ 0 → ⊥) → 0 < (leaf_of st t).up
      some (inl e) =
          let z : [] ≡ stack.0 ++ (stack.1 ∷ []) = sym (ap (label st.link) e) ∙ (front_is ∙ stack.3) in
          omega (arith, ap length z, length_push stack.0 stack.1)
      some (inr d) = omega arith
