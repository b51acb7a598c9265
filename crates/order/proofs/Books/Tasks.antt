-- What an order says of tasks where the rows of a book change: one task's row is written, and a new task may follow the others.
use Rattle.std.proofs.lemmas.Bool.{cond-true, lt-ltb, ltb-true}
use Rattle.std.proofs.lemmas.Bool.Decides.{nat_tests}
use Rattle.std.proofs.Common.{◌≡◌, ℕ, ◌+◌, ◌<◌, Bool, true, false, cond, not, ◌&&◌, ◌||◌, ◌==◌, List, [], nat_lt, refl, sym, ap, ◌∙◌, arith, add-one}
use Rattle.model.specs.Lists.{any, below, put}
use Rattle.model.specs.Orders.{Task, no_task}
use Rattle.order.specs.declared.record.TaskRow.{TaskRow}
use Rattle.order.specs.declared.record.FinishRow.{FinishRow}
use Rattle.order.specs.States.{task_told, chain, lives_in, ended_at}
use Rattle.order.proofs.Books.Writes.{put_at, put_off}
use Rattle.order.proofs.Books.Puts.{put_holds, put_keeps, put_part}
use Rattle.order.proofs.Books.Counts.{any_same, any_put}
use Rattle.order.proofs.Books.Nested.{Around, chain_same}

-- a running task
abbrev pub on : ℕ → List ℕ → Task
on c fs = record { running = true; current = c; finishes = fs }

pub row_told : (fin : ℕ → FinishRow) (k : TaskRow) → k.running ≡ true → task_told fin k ≡ on k.current (chain fin k.own k.inner)
row_told fin k r = ap (λ b. record { running = b; current = k.current; finishes = cond b (chain fin k.own k.inner) [] }) r

-- the tasks of an order, by the finishes and the rows of n tasks
abbrev pub tasks_of : (ℕ → FinishRow) → ℕ → (ℕ → TaskRow) → ℕ → Task
tasks_of fin n task u = cond (nat_lt u n) (task_told fin (task u)) no_task

pub held_told : (fin : ℕ → FinishRow) (n : ℕ) (task : ℕ → TaskRow) (t : ℕ) → t < n → (task t).running ≡ true
    → tasks_of fin n task t ≡ on (task t).current (chain fin (task t).own (task t).inner)
held_told fin n task t h r = cond-true (nat_lt t n) (task_told fin (task t)) no_task (lt-ltb t n h) ∙ row_told fin (task t) r

-- the row of t is written, and the finishes around others stay
module _ (fin fin₂ : ℕ → FinishRow) (n b : ℕ) (task : ℕ → TaskRow) (w : Around fin fin₂ b) (held : (u : ℕ) → u < n → (task u).inner < b) where
  pub others_told : (u : ℕ) → tasks_of fin₂ n task u ≡ tasks_of fin n task u
  others_told u = go (nat_lt u n) (λ e. chain_same fin fin₂ b w (task u).own (task u).inner (held u (ltb-true u n e)))
    where
      go : (x : Bool) → (x ≡ true → chain fin₂ (task u).own (task u).inner ≡ chain fin (task u).own (task u).inner)
          → cond x (task_told fin₂ (task u)) no_task ≡ cond x (task_told fin (task u)) no_task
      go true e = ap (λ fs. record { running = (task u).running; current = (task u).current; finishes = cond (task u).running fs [] }) (e refl)
      go false e = refl

  pub one_told : (t : ℕ) (k : TaskRow) (x : Task) → t < n → task_told fin₂ k ≡ x → (u : ℕ) → tasks_of fin₂ n (put task t k) u ≡ put (tasks_of fin n task) t x u
  one_told t k x h e u = put_holds (λ v z. cond (nat_lt v n) (task_told fin₂ z) no_task ≡ put (tasks_of fin n task) t x v) task t k
      (cond-true (nat_lt t n) (task_told fin₂ k) no_task (lt-ltb t n h) ∙ e ∙ sym (put_at (tasks_of fin n task) t x t refl))
      u (λ d. others_told u ∙ sym (put_off (tasks_of fin n task) t x u d))

-- the row of a task is written behind the rows of the n that were held
pub next_told : (fin : ℕ → FinishRow) (n : ℕ) (task : ℕ → TaskRow) (k : TaskRow) (u : ℕ)
    → tasks_of fin (n + 1) (put task n k) u ≡ put (tasks_of fin n task) n (task_told fin k) u
next_told fin n task k u = put_holds (λ v z. cond (nat_lt v (n + 1)) (task_told fin z) no_task ≡ put (tasks_of fin n task) n (task_told fin k) v) task n k
    (cond-true (nat_lt n (n + 1)) (task_told fin k) no_task (lt-ltb n (n + 1) (omega arith)) ∙ sym (put_at (tasks_of fin n task) n (task_told fin k) n refl))
    u (λ d. ap (λ b. cond b (task_told fin (task u)) no_task) (same d) ∙ sym (put_off (tasks_of fin n task) n (task_told fin k) u d))
  where
    same : (u ≡ n → ⊥) → nat_lt u (n + 1) ≡ nat_lt u n
    same d = grind (arith, nat_tests, d)

-- the row of a task that runs on, and lives where it did
module _ (task : ℕ → TaskRow) (t : ℕ) (k : TaskRow) (r : (task t).running ≡ true) (s : k.running ≡ true) (same : k.home ≡ (task t).home) where
  pub lives_kept : (f u : ℕ) → lives_in (put task t k u) f ≡ lives_in (task u) f
  lives_kept f = put_keeps (λ z. lives_in z f) task t k (let a : k.running ≡ (task t).running = s ∙ sym r in cc)

  pub ended_kept : (f l u : ℕ) → ended_at (put task t k u) f l ≡ ended_at (task u) f l
  ended_kept f l = put_keeps (λ z. ended_at z f l) task t k
      (ap (λ b. not b && (k.home == f && k.current == l)) s ∙ sym (ap (λ b. not b && ((task t).home == f && (task t).current == l)) r))

  pub last_kept : (n f l : ℕ) → any (λ u. ended_at (put task t k u) f l) (below n) ≡ any (λ u. ended_at (task u) f l) (below n)
  last_kept n f l = any_same (λ u. ended_at (put task t k u) f l) (λ u. ended_at (task u) f l) n (λ u h. ended_kept f l u)

-- a new task that runs
module _ (task : ℕ → TaskRow) (n : ℕ) (k : TaskRow) (r : k.running ≡ true) where
  pub lives_next : (f u : ℕ) → (nat_lt u (n + 1) && lives_in (put task n k u) f) ≡ ((f == k.home && u == n) || (nat_lt u n && lives_in (task u) f))
  lives_next f u = put_holds (λ v z. (nat_lt v (n + 1) && lives_in z f) ≡ ((f == k.home && v == n) || (nat_lt v n && lives_in (task v) f))) task n k
      (grind (arith, nat_tests, r)) u (λ d. grind (arith, nat_tests, d))

  pub last_next : (f l : ℕ) → any (λ u. ended_at (put task n k u) f l) (below (n + 1)) ≡ any (λ u. ended_at (task u) f l) (below n)
  last_next f l = ap (λ m. any (λ u. ended_at (put task n k u) f l) (below m)) (add-one n)
      ∙ ap (λ b. b || any (λ u. ended_at (put task n k u) f l) (below n)) (ap (λ z. ended_at z f l) (put_at task n k n refl) ∙ ap (λ b. not b && (k.home == f && k.current == l)) r)
      ∙ any_same (λ u. ended_at (put task n k u) f l) (λ u. ended_at (task u) f l) n (λ u h. ap (λ z. ended_at z f l) (put_off task n k u (λ e. omega (arith, e, h))))

-- a task that ran ends
module _ (task : ℕ → TaskRow) (n t : ℕ) (h : t < n) (r : (task t).running ≡ true) where
  abbrev ended : TaskRow
  ended = record (task t) { running = false }

  pub lives_end : (f u : ℕ) → (nat_lt u n && lives_in (put task t ended u) f) ≡ (not (u == t) && (nat_lt u n && lives_in (task u) f))
  lives_end f u = put_holds (λ v z. (nat_lt v n && lives_in z f) ≡ (not (v == t) && (nat_lt v n && lives_in (task v) f))) task t ended
      (grind (arith, nat_tests)) u (λ d. grind (arith, nat_tests, d))

  pub last_end : (f l : ℕ) → any (λ u. ended_at (put task t ended u) f l) (below n) ≡ ((f == (task t).home && l == (task t).current) || any (λ u. ended_at (task u) f l) (below n))
  last_end f l = ap (λ p. any p (below n)) (put_part (λ z. ended_at z f l) task t ended)
      ∙ any_put (λ u. ended_at (task u) f l) t (ended_at ended f l) n h (ap (λ b. not b && ((task t).home == f && (task t).current == l)) r)
      ∙ ap (λ b. b || any (λ u. ended_at (task u) f l) (below n)) turn
    where
      turn : ended_at ended f l ≡ (f == (task t).home && l == (task t).current)
      turn = grind (arith, nat_tests)
