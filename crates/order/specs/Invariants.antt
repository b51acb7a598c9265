-- What holds of the book of a keeper from call to call, whichever keeper it is.
use Rattle.std.specs.Prelude.{◌≡◌, ℕ, suc, ◌*◌, ◌/◌, ◌^◌, ◌<◌, ◌≤◌, Bool, cond}
use Rattle.std.proofs.Props.{props}
use Rattle.order.specs.declared.record.FinishRow.{FinishRow}
use Rattle.order.specs.States.{State, lives_in}

-- how many of the numbers below n pass
abbrev pub count : (ℕ → Bool) → ℕ → ℕ
count p ℕ.zero = 0
count p (suc n) = cond (p n) (suc (count p n)) (count p n)

-- the finish in which a task lives that has n finishes of its own, with f the innermost
abbrev pub foot : (ℕ → FinishRow) → ℕ → ℕ → ℕ
foot fin ℕ.zero f = f
foot fin (suc n) f = foot fin n (fin f).outer

pub record Plain (st : State) : Type 0 where
  -- what is held fits the records that were lent, whose indices fit 64 bits; step 0, task 0 and finish 0 are held
  pub steps_held : 0 < st.steps
  pub steps_fit : st.steps ≤ st.limit
  pub limit_fits : st.limit ≤ 2 ^ 62
  pub tasks_held : 0 < st.tasks
  pub tasks_fit : st.tasks ≤ st.steps
  pub finishes_held : 0 < st.finishes
  pub finishes_fit : st.finishes ≤ st.steps
  -- every place hangs from one with a smaller number, so a climb ends at place 0; turns do not grow too large
  pub hung : (p : ℕ) → 0 < p → p < 2 * st.steps → (st.link p).up < p
  pub turned : (p : ℕ) → p < 2 * st.steps → (st.link p).turn ≤ p / 2 * 2
  -- the finish around a finish is an older one, and tasks are counted where they live
  pub around : (f : ℕ) → 0 < f → f < st.finishes → (st.finish f).outer < f
  pub outermost : (st.finish 0).outer ≡ 0
  pub counted : (f : ℕ) → f < st.finishes → (st.finish f).alive ≡ count (λ t. lives_in (st.task t) f) st.tasks
  -- a task's step and finishes are held, and behind its own finishes stands the one that it lives in
  pub current_held : (t : ℕ) → t < st.tasks → (st.task t).current < st.steps
  pub inner_held : (t : ℕ) → t < st.tasks → (st.task t).inner < st.finishes
  pub home_held : (t : ℕ) → t < st.tasks → (st.task t).home < st.finishes
  pub own_fits : (t : ℕ) → t < st.tasks → (st.task t).own < st.finishes
  pub footed : (t : ℕ) → t < st.tasks → foot st.finish (st.task t).own (st.task t).inner ≡ (st.task t).home

-- a book is plain in one way
pub plain_prop : (st : State) → IsProp (Plain st)
plain_prop st = Prim.hlevel props
