-- What is low at a node stays so as new labels come at a slot: a node, and a turn there past which nothing is yet.
use Rattle.std.proofs.lemmas.Bool.Decides.{nat_tests}
use Rattle.std.proofs.Common.{◌≡◌, ℕ, suc, ◌<◌, ◌≤◌, T, ◌⊎◌, List, [], ◌∷◌, ◌++◌, inl, inr, arith}
use Rattle.model.specs.Orders.{Order, Task}
use Rattle.model.specs.Labels.{Label, Low}
use Rattle.model.specs.Shapes.{Above, Lows, Stack, Runner}
use Rattle.model.proofs.Trees.Labels.{low_beside}
use Rattle.model.proofs.Trees.Relabel.{stack_map}

-- the label y lies past the child k of the node q
abbrev pub Slot : Label → ℕ → Label → Type 0
Slot q k y = (j : ℕ) × (r : Label) × (k < j) × (y ≡ q ++ (j ∷ r))

-- what is low at p is so of a slot beside it
pub slot_low : (p : Label) (n : ℕ) (q : Label) (k up : ℕ) (at : ℕ) → Low p n (q ++ (k ∷ [])) → Low q up (p ++ (at ∷ [])) → up ≤ suc k
    → (p ≡ q → k < n → at < up → ⊥) → (y : Label) → Slot q k y → Low p n y
slot_low p n q k up at a b l c y s = grind (arith, low_beside)

-- the order n has the steps and finishes of m, and more of them with labels in `New`
module _ (m n : Order) (lab node : ℕ → Label) (New : Label → Type 0)
    (more_steps : (x : ℕ) → x < n.steps → (x < m.steps) ⊎ New (lab x))
    (more_nodes : (f : ℕ) → f < n.finishes → (f < m.finishes) ⊎ New (node f)) where
  pub lows_grow : (p : Label) (i : ℕ) → ((y : Label) → New y → Low p i y) → Lows m lab node p i → Lows n lab node p i
  lows_grow p i fits l = record { step_low = λ x h. on_step x (more_steps x h); node_low = λ f h. on_node f (more_nodes f h) }
    where
      on_step : (x : ℕ) → (x < m.steps) ⊎ New (lab x) → Low p i (lab x)
      on_step x (inl h) = l.step_low x h
      on_step x (inr s) = fits (lab x) s

      on_node : (f : ℕ) → (f < m.finishes) ⊎ New (node f) → Low p i (node f)
      on_node f (inl h) = l.node_low f h
      on_node f (inr s) = fits (node f) s

  pub stack_grow : (p : Label) (fs : List ℕ)
      → ((f g : ℕ) (p : Label) (i : ℕ) → Above f g fs → node f ≡ p ++ (i ∷ []) → Lows m lab node p (suc i)
      → (y : Label) → New y → Low p (suc i) y)
      → Stack m lab node p fs → Stack n lab node p fs
  stack_grow p fs fits s = grind (arith, nat_tests, stack_map, lows_grow)

  pub runner_grow : (by owner : ℕ → ℕ) (u : ℕ) (t : Task) (r : Runner m lab node by owner u t)
      → m.tasks ≤ n.tasks → m.steps ≤ n.steps → m.finishes ≤ n.finishes
      → ((b : ℕ) → T (n.before t.current b) → ⊥)
      → ((f l : ℕ) → T (n.last f l) → t.current ≡ l → ⊥)
      → ((f : ℕ) → T (m.lives f u) → T (n.lives f u))
      → ((y : Label) → New y → Low r.path r.turn y)
      → ((f g : ℕ) (p : Label) (i : ℕ) → Above f g t.finishes → node f ≡ p ++ (i ∷ []) → Lows m lab node p (suc i)
      → (y : Label) → New y → Low p (suc i) y)
      → Runner n lab node by owner u t
  runner_grow by owner u t r tasks steps finishes tip going lives top levels =
      record {
        held = let h = r.held in omega arith;
        current_held = let h = r.current_held in omega arith;
        current_by = r.current_by;
        tip = tip;
        going = going;
        finish_held = λ f i. let h = r.finish_held f i in omega arith;
        seat = λ f i. seated f (r.seat f i);
        owns = r.owns;
        path = r.path;
        turn = r.turn;
        at = r.at;
        even = r.even;
        step_low = λ x h d. on_step x d (more_steps x h);
        node_low = λ f h. on_node f (more_nodes f h);
        stack = stack_grow r.path t.finishes levels r.stack;
      }
    where
      seated : (f : ℕ) → (owner f ≡ u) ⊎ T (m.lives f u) → (owner f ≡ u) ⊎ T (n.lives f u)
      seated f (inl e) = inl e
      seated f (inr l) = inr (lives f l)

      on_step : (x : ℕ) → (x ≡ t.current → ⊥) → (x < m.steps) ⊎ New (lab x) → Low r.path r.turn (lab x)
      on_step x d (inl h) = r.step_low x h d
      on_step x d (inr s) = top (lab x) s

      on_node : (f : ℕ) → (f < m.finishes) ⊎ New (node f) → Low r.path r.turn (node f)
      on_node f (inl h) = r.node_low f h
      on_node f (inr s) = top (node f) s
