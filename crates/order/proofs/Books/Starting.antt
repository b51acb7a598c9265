-- A cleared book stands for the empty order.
use Rattle.std.proofs.Common.{◌≡◌, ℕ, Bool, true, false, ◌||◌, inl, inr, ap, sym, ◌∙◌, arith, ◌==◌, nat_lt, [], ◌∷◌}
use Rattle.std.proofs.lemmas.Bool.{cases_eq, cond-true, eq-eqb, lt-ltb}
use Rattle.std.proofs.lemmas.Bool.Decides.{nat_tests}
use Rattle.model.specs.Lists.{any, below}
use Rattle.model.specs.Orders.{Order, emptied, no_task}
use Rattle.order.proofs.Books.Puts.{order_ext}
use Rattle.order.specs.States.{State, Cleared, order_with, task_told, ended_at}

module _ (limit : ℕ) (st : State) (c : Cleared limit st) (before earlier : ℕ → ℕ → Bool) where
  abbrev m : Order
  m = order_with before earlier st

  task_is : (t : ℕ) → t ≡ 0 → st.task t ≡ record { running = true; current = 0; inner = 0; own = 0; home = 0 }
  task_is t e = ap st.task e ∙ c.task_is

  task_cleared : (t : ℕ) → m.task t ≡ (emptied limit).task t
  task_cleared t =
      let n = c.tasks_is in
      elim (cases_eq t 0) [
        | inl e ↦ cond-true (nat_lt t st.tasks) (task_told st.finish (st.task t)) no_task (lt-ltb t st.tasks (omega arith))
            ∙ ap (task_told st.finish) (task_is t e)
            ∙ sym (cond-true (t == 0) (record { running = true; current = 0; finishes = 0 ∷ [] }) no_task (eq-eqb t 0 e))
        | inr d ↦ grind (arith, nat_tests)
      ]

  lives_cleared : (f t : ℕ) → m.lives f t ≡ (emptied limit).lives f t
  lives_cleared f t = let n = c.tasks_is in grind (arith, nat_tests, task_is t)

  last_cleared : (f l : ℕ) → m.last f l ≡ (emptied limit).last f l
  last_cleared f l =
      ap (λ n. any (λ t. ended_at (st.task t) f l) (below n)) c.tasks_is ∙ ap (λ k. ended_at k f l || false) c.task_is

  pub cleared_told : ((a b : ℕ) → m.before a b ≡ false) → ((a b : ℕ) → m.earlier a b ≡ false) → m ≡ emptied limit
  cleared_told b e = order_ext m (emptied limit) c.limit_is c.steps_is c.tasks_is c.finishes_is b e task_cleared lives_cleared last_cleared
