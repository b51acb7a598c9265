-- The keeper numbers tasks as they are made: each name has its own number, and the keeper's task is what the past says of it.
use Rattle.std.proofs.lemmas.Bool.Decides.{nat_tests}
use Rattle.std.proofs.Common.{◌≡◌, ℕ, ◌+◌, ◌≤◌, true, false, cond, eqb, [], ◌∷◌, length, refl, inl, inr, arith}
use Rattle.std.proofs.lemmas.Bool.{cases_eq}
use Rattle.model.specs.declared.Event.TheVariants.{Spawn, End, Open, Close, Read, Write}
use Rattle.model.specs.Lists.{head_or, rest, put}
use Rattle.model.specs.Past.{Past, spawned_tasks}
use Rattle.model.specs.Accesses.{CellKind}
use Rattle.model.specs.Orders.{Order, Task}
use Rattle.model.specs.Link.{number, order_of}
use Rattle.model.proofs.Shelf.Tests.{cond_ne}
use Rattle.model.proofs.Linking.Sound.{Known, Sound}

-- what a task is: made by the task x, on the step n
abbrev pub child_task : ℕ → Task → Task
child_task n x = record { running = true; current = n; finishes = head_or x.finishes 0 ∷ [] }

-- after a spawn of its own
abbrev pub spawner_task : ℕ → Task → Task
spawner_task n x = record x { current = n }

-- after its end
abbrev pub ended_task : Task → Task
ended_task x = record x { running = false; finishes = [] }

-- after it opened the finish f
abbrev pub opened_task : ℕ → ℕ → Task → Task
opened_task n f x = record x { current = n; finishes = f ∷ x.finishes }

-- after it closed its innermost finish
abbrev pub closed_task : ℕ → Task → Task
closed_task n x = record x { current = n; finishes = rest x.finishes }

module _ {C : Type 0} (k : CellKind C) (lim : ℕ) where
  -- the order that the keeper means after a past
  abbrev keeper : Past C → Order
  keeper h = order_of lim h

  -- numbers of tasks
  pub number_le : (h : Past C) (u : ℕ) → number h u ≤ length (spawned_tasks h)
  number_le [] u = omega arith
  number_le (Spawn a v ∷ h) u = grind (arith, number_le h)
  number_le (e ∷ h) u = grind (arith, number_le h)

  -- and how many there are
  pub tasks_is : (h : Past C) → (keeper h).tasks ≡ length (spawned_tasks h) + 1
  tasks_is [] = refl
  tasks_is (Spawn a v ∷ h) = let p = tasks_is h in omega arith
  tasks_is (e ∷ h) = grind (arith, tasks_is h)

  -- a task that is known after a spawn, and not the child
  pub known_in : (h : Past C) (a v u : ℕ) → Known k (Spawn a v ∷ h) u → (u ≡ v → ⊥) → Known k h u
  known_in h a v u q n = grind arith

  pub number_inj : (h : Past C) → Sound k h → (t u : ℕ) → Known k h t → Known k h u → number h t ≡ number h u → t ≡ u
  number_inj [] s t u p q e = grind arith
  number_inj (Spawn a v ∷ h) s t u p q e = grind (arith, nat_tests, number_inj h, number_le, known_in)
  number_inj (d ∷ h) s t u p q e = grind (arith, nat_tests, number_inj h)

  -- the keeper's task, by its name
  abbrev pub task_of : Past C → ℕ → Task
  task_of [] t = record { running = true; current = 0; finishes = 0 ∷ [] }
  task_of (Spawn a u ∷ h) t =
      cond (eqb t u) (child_task (keeper h).steps (task_of h a))
      (cond (eqb t a) (spawner_task ((keeper h).steps + 1) (task_of h a)) (task_of h t))
  task_of (End a ∷ h) t = cond (eqb t a) (ended_task (task_of h a)) (task_of h t)
  task_of (Open a ∷ h) t = cond (eqb t a) (opened_task (keeper h).steps (keeper h).finishes (task_of h a)) (task_of h t)
  task_of (Close a ∷ h) t = cond (eqb t a) (closed_task (keeper h).steps (task_of h a)) (task_of h t)
  task_of (Read a c ∷ h) t = task_of h t
  task_of (Write a c ∷ h) t = task_of h t

  -- one task changed, by number and by name
  retask_tie : (h : Past C) (s : Sound k h) (t a : ℕ) (x y : Task) → Known k h t → Known k h a → x ≡ y
      → (keeper h).task (number h t) ≡ task_of h t
      → put (keeper h).task (number h a) x (number h t) ≡ cond (eqb t a) y (task_of h t)
  retask_tie h s t a x y p q e r = grind (arith, nat_tests, number_inj)

  pub task_of_is : (h : Past C) → Sound k h → (t : ℕ) → Known k h t → (keeper h).task (number h t) ≡ task_of h t
  task_of_is [] s t p = refl
  task_of_is (Spawn a u ∷ h) s t p = elim (cases_eq t u) [
    | inl tu ↦ grind (arith, nat_tests, task_of_is h, tasks_is)
    | inr n ↦ (
        let known_t = known_in h a u t p n in
        let same = cond_ne t u (length (spawned_tasks h) + 1) (number h t) n in
        grind (arith, nat_tests, task_of_is h, keeper, number_le, tasks_is, same, retask_tie))
  ]
  task_of_is (e ∷ h) s t p = grind (arith, nat_tests, task_of_is h, retask_tie)
