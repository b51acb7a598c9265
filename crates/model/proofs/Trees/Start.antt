-- The shape of an order at its start: one task, on step 0 under the root.
use Rattle.std.proofs.Common.{◌≡◌, ℕ, ◌<◌, true, T, [], ◌∷◌, refl, inl, inr, arith}
use Rattle.std.proofs.lemmas.Bool.Decides.{nat_tests}
use Rattle.model.specs.Orders.{Order, Task, no_task, emptied}
use Rattle.model.specs.Trees.{planted}
use Rattle.model.specs.Shapes.{In, Above, Runner, Shape}

-- the task of every step and of every finish: task 0
abbrev pub of_root : ℕ → ℕ
of_root x = 0

module _ (limit : ℕ) where
  -- the order at its start
  abbrev n : Order
  n = emptied limit

  -- its only task
  abbrev root : Task
  root = record { running = true; current = 0; finishes = 0 ∷ [] }

  -- what holds of a running task there
  abbrev RootRunner : ℕ → Task → Type 0
  RootRunner u k = Runner n planted.step planted.finish of_root of_root u k

  on_root : RootRunner 0 root
  on_root =
      record {
        held = omega arith;
        current_held = omega arith;
        current_by = refl;
        tip = λ b h. h;
        going = λ f l h e. h;
        finish_held = finish;
        seat = λ f i. inl refl;
        owns = alone;
        path = [];
        turn = 0;
        at = refl;
        even = tt;
        step_low = λ x h d. absurd (d (omega arith));
        node_low = λ f h. tt;
        stack = ([], refl);
      }
    where
      finish : (f : ℕ) → In f (0 ∷ []) → f < 1
      finish f (inl e) = omega arith
      finish f (inr i) = absurd i

      alone : (g f : ℕ) → Above g f (0 ∷ []) → (of_root g ≡ 0) × (f < g)
      alone g f (inl (e, i)) = absurd i
      alone g f (inr a) = absurd a

  by_root : (P : Task → Type 0) (u : ℕ) → (u ≡ 0 → P root) → P no_task → P (n.task u)
  by_root P u a b = grind arith

  runs_on : (u : ℕ) → T (n.task u).running → RootRunner u (n.task u)
  runs_on u = grind (arith, nat_tests, on_root)

  root_in : (f v : ℕ) → T (n.task v).running → In f (n.task v).finishes → In f (0 ∷ [])
  root_in f v = by_root (λ k. T k.running → In f k.finishes → In f (0 ∷ [])) v (λ e go i. i) (λ go i. absurd go)

  pub start_shape : Shape (emptied limit) planted.step planted.finish of_root of_root
  start_shape =
      record {
        before_held = λ a b h. absurd h;
        earlier_held = λ a b h. absurd h;
        labelled = record {
          before_is = λ a b h k. refl;
          earlier_is = λ a b h k. refl;
          apart = λ a b h k e. omega arith;
          leaf = λ a b h k u. omega arith;
        };
        node_apart = λ f g h k e. omega arith;
        last_held = λ f l h. absurd h;
        last_under = λ f l h. absurd h;
        runner = runs_on;
        covered = λ v f x go i h k. inl (0, tt, root_in f v go i, (grind arith));
      }
