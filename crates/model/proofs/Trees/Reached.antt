-- Every reached order has the shape of the tree that its calls grow, so its labels are that tree's, and the laws hold of it.
use Rattle.std.proofs.Common.{◌≡◌, ℕ, ◌+◌, ◌<◌, ◌≤◌, T, List, [], ◌∷◌, sym, refl, ap, ◌∙◌, arith}
use Rattle.model.specs.Lists.{head_or, put}
use Rattle.model.specs.Orders.{Order, spawned, opened, closed, done}
use Rattle.model.specs.Reached.{Reached, start, by_spawn, by_open, by_close, by_end, OrderLaws}
use Rattle.model.specs.Labels.{Label, child_of, next_of, inner_of}
use Rattle.model.specs.Trees.{Tree, spawn_tree, open_tree, close_tree, tree_of, Labelled}
use Rattle.model.specs.Shapes.{Shape, Shaped}
use Rattle.model.proofs.Trees.ShapeLaws.{shape_laws}
use Rattle.model.proofs.Trees.Relabel.{relabel}
use Rattle.model.proofs.Trees.Steps.{spawn_kept, open_kept, close_kept}
use Rattle.model.proofs.Trees.End.{end_shape}
use Rattle.model.proofs.Trees.Start.{of_root, start_shape}

put_at : {A : Type 0} (f : ℕ → A) (k : ℕ) (v : A) → put f k v k ≡ v
put_at f k v = grind arith

put_below : {A : Type 0} (f : ℕ → A) (k : ℕ) (v : A) (x : ℕ) → x < k → f x ≡ put f k v x
put_below f k v x h = grind arith

-- changed at two places
put_first : {A : Type 0} (f : ℕ → A) (k : ℕ) (v w : A) → put (put f k v) (k + 1) w k ≡ v
put_first f k v w = sym (put_below (put f k v) (k + 1) w k (omega arith)) ∙ put_at f k v

put_lower : {A : Type 0} (f : ℕ → A) (k : ℕ) (v w : A) (x : ℕ) → x < k → f x ≡ put (put f k v) (k + 1) w x
put_lower f k v w x h = put_below f k v x h ∙ put_below (put f k v) (k + 1) w x (omega arith)

module _ (m : Order) (tree : Tree) (t : ℕ) (run : T (m.task t).running) (w : Shaped m tree) where
  -- the shape at the labels of a larger tree
  relabelled : (v : Tree) (by owner : ℕ → ℕ) → ((x : ℕ) → x < m.steps → tree.step x ≡ v.step x)
      → ((f : ℕ) → f < m.finishes → tree.finish f ≡ v.finish f) → ((x : ℕ) → x < m.steps → w.by x ≡ by x)
      → ((f : ℕ) → f < m.finishes → w.owner f ≡ owner f) → Shape m v.step v.finish by owner
  relabelled v by owner a b c d =
      relabel m tree.step tree.finish v.step v.finish w.by w.owner by owner a b c d w.shape

  -- the current step of t
  abbrev now : ℕ
  now = (m.task t).current

  now_held : now < m.steps
  now_held = (w.shape.runner t run).current_held

  -- its label
  abbrev at : Label
  at = tree.step now

  shaped_spawn : Shaped (spawned m t) (spawn_tree m t tree)
  shaped_spawn =
      record {
        by = by;
        owner = w.owner;
        shape = spawn_kept m v.step v.finish by w.owner
            (relabelled v by w.owner old (λ f h. refl) (put_lower w.by m.steps m.tasks t) (λ f h. refl)) t run
            (put_first tree.step m.steps (child_of at) (next_of at) ∙ ap child_of (old now now_held))
            (put_at (put tree.step m.steps (child_of at)) (m.steps + 1) (next_of at) ∙ ap next_of (old now now_held))
            (put_first w.by m.steps m.tasks t) (put_at (put w.by m.steps m.tasks) (m.steps + 1) t);
      }
    where
      v : Tree
      v = spawn_tree m t tree

      by : ℕ → ℕ
      by = put (put w.by m.steps m.tasks) (m.steps + 1) t

      old : (x : ℕ) → x < m.steps → tree.step x ≡ v.step x
      old = put_lower tree.step m.steps (child_of at) (next_of at)

  shaped_open : Shaped (opened m t) (open_tree m t tree)
  shaped_open =
      record {
        by = by;
        owner = owner;
        shape = open_kept m v.step v.finish by owner
            (relabelled v by owner old (put_below tree.finish m.finishes (next_of at))
            (put_below w.by m.steps t) (put_below w.owner m.finishes t)) t run
            (put_at tree.step m.steps (inner_of at) ∙ ap inner_of (old now now_held))
            (put_at tree.finish m.finishes (next_of at) ∙ ap next_of (old now now_held))
            (put_at w.by m.steps t) (put_at w.owner m.finishes t);
      }
    where
      v : Tree
      v = open_tree m t tree

      by : ℕ → ℕ
      by = put w.by m.steps t

      owner : ℕ → ℕ
      owner = put w.owner m.finishes t

      old : (x : ℕ) → x < m.steps → tree.step x ≡ v.step x
      old = put_below tree.step m.steps (inner_of at)

  shaped_close : (f g : ℕ) (fs : List ℕ) → (m.task t).finishes ≡ f ∷ (g ∷ fs) → ((u : ℕ) → T (m.lives f u) → ⊥)
      → Shaped (closed m t) (close_tree m t tree)
  shaped_close f g fs fin empty =
      let new : Label = next_of (tree.finish (head_or (m.task t).finishes 0)) in
      record {
        by = by;
        owner = w.owner;
        shape = close_kept m v.step tree.finish by w.owner
            (relabelled v by w.owner (put_below tree.step m.steps new) (λ f h. refl)
            (put_below w.by m.steps t) (λ f h. refl)) t run f g fs fin empty
            (put_at tree.step m.steps new ∙ ap (λ z. next_of (tree.finish (head_or z 0))) fin)
            (put_at w.by m.steps t);
      }
    where
      v : Tree
      v = close_tree m t tree

      by : ℕ → ℕ
      by = put w.by m.steps t

  shaped_end : (f : ℕ) → (m.task t).finishes ≡ f ∷ [] → Shaped (done m t) tree
  shaped_end f fin =
      record {
        by = w.by;
        owner = w.owner;
        shape = end_shape m tree.step tree.finish w.by w.owner w.shape t run f fin;
      }

-- the calls that lead to an order keep the shape of the tree that they grow
pub reached_shape : (limit : ℕ) (m : Order) (r : Reached limit m) → Shaped m (tree_of r)
reached_shape limit m start = record { by = of_root; owner = of_root; shape = start_shape limit }
reached_shape limit m (by_spawn o t r run) = shaped_spawn o (tree_of r) t run (reached_shape limit o r)
reached_shape limit m (by_open o t r run) = shaped_open o (tree_of r) t run (reached_shape limit o r)
reached_shape limit m (by_close o t f g fs r run own none) =
    shaped_close o (tree_of r) t run (reached_shape limit o r) f g fs own none
reached_shape limit m (by_end o t f r run own) = shaped_end o (tree_of r) t run (reached_shape limit o r) f own

pub reached_labels : (limit : ℕ) (m : Order) (r : Reached limit m) → Labelled m (tree_of r).step
reached_labels limit m r = (reached_shape limit m r).shape.labelled

-- each call makes no more tasks and no more finishes than steps
counted : (limit : ℕ) (m : Order) → Reached limit m → (m.tasks ≤ m.steps) × (m.finishes ≤ m.steps)
counted limit m start = (omega arith, omega arith)
counted limit m (by_spawn o t r run) = let (p, q) = counted limit o r in (omega arith, omega arith)
counted limit m (by_open o t r run) = let (p, q) = counted limit o r in (omega arith, omega arith)
counted limit m (by_close o t f g fs r run own none) = let (p, q) = counted limit o r in (omega arith, omega arith)
counted limit m (by_end o t f r run own) = counted limit o r

pub reached_laws : (limit : ℕ) (m : Order) → Reached limit m → OrderLaws m
reached_laws limit m r =
    let w = reached_shape limit m r in
    let (p, q) = counted limit m r in
    shape_laws m (tree_of r).step (tree_of r).finish w.by w.owner w.shape p q
