-- What a book says of a running task, and of whether it has a finish of its own and whether a task lives in its innermost.
use Rattle.std.proofs.lemmas.Bool.{ltb-true, lt-ltb}
use Rattle.std.proofs.Common.{◌≡◌, ℕ, suc, ◌<◌, ◌≤◌, Bool, true, false, cond, ◌&&◌, ◌||◌, nat_lt, refl, sym, ap, ◌∙◌, arith}
use Rattle.model.specs.Lists.{any, below, head_or}
use Rattle.model.specs.Orders.{has_own, lived}
use Rattle.order.specs.declared.record.FinishRow.{FinishRow}
use Rattle.order.specs.States.{State, tasks_told, chain, lives_in}
use Rattle.order.specs.Invariants.{Plain, count}

pub chain_own : (fin : ℕ → FinishRow) (n f : ℕ) → has_own (chain fin n f) ≡ nat_lt 0 n
chain_own fin ℕ.zero f = refl
chain_own fin (suc ℕ.zero) f = refl
chain_own fin (suc (suc n)) f = sym (lt-ltb 0 (suc (suc n)) (omega arith))

pub chain_head : (fin : ℕ → FinishRow) (n f : ℕ) → head_or (chain fin n f) 0 ≡ f
chain_head fin ℕ.zero f = refl
chain_head fin (suc n) f = refl

-- a task that runs in the order is held, and runs in the book
pub record Runs (st : State) (t : ℕ) : Type 0 where
  pub held : t < st.tasks
  pub runs : (st.task t).running ≡ true
  pub finishes_are : ((tasks_told st).task t).finishes ≡ chain st.finish (st.task t).own (st.task t).inner

pub running : (st : State) (t : ℕ) → ((tasks_told st).task t).running ≡ true → Runs st t
running st t r = go (nat_lt t st.tasks) (st.task t).running refl refl
  where
    go : (x y : Bool) → nat_lt t st.tasks ≡ x → (st.task t).running ≡ y → Runs st t
    go true true e f = record { held = ltb-true t st.tasks e; runs = f; finishes_are = grind (arith, e, f) }
    go true false e f = absurd (grind (arith, e, f, r))
    go false y e f = absurd (grind (arith, e, r))

pub owns_is : (st : State) (t : ℕ) → ((tasks_told st).task t).running ≡ true → nat_lt 0 (st.task t).own ≡ has_own ((tasks_told st).task t).finishes
owns_is st t r = sym (ap has_own (running st t r).finishes_are ∙ chain_own st.finish (st.task t).own (st.task t).inner)

pub head_is : (st : State) (t : ℕ) → ((tasks_told st).task t).running ≡ true → head_or ((tasks_told st).task t).finishes 0 ≡ (st.task t).inner
head_is st t r = ap (λ fs. head_or fs 0) (running st t r).finishes_are ∙ chain_head st.finish (st.task t).own (st.task t).inner

any_counts : (p : ℕ → Bool) (n : ℕ) → any p (below n) ≡ nat_lt 0 (count p n)
any_counts p ℕ.zero = refl
any_counts p (suc n) = go (p n) (any_counts p n)
  where
    go : (b : Bool) → any p (below n) ≡ nat_lt 0 (count p n) → (b || any p (below n)) ≡ nat_lt 0 (cond b (suc (count p n)) (count p n))
    go true h = sym (lt-ltb 0 (suc (count p n)) (omega arith))
    go false h = h

-- below n the bound of the numbers is no test
any_held : (p : ℕ → Bool) (n k : ℕ) → k ≤ n → any (λ u. nat_lt u n && p u) (below k) ≡ any p (below k)
any_held p n ℕ.zero h = refl
any_held p n (suc k) h = let r = any_held p n k (omega (arith, h)) in grind (arith, r, h)

pub awaits_is : (st : State) → Plain st → (t : ℕ) → ((tasks_told st).task t).running ≡ true
    → nat_lt 0 (st.finish (st.task t).inner).alive ≡ lived (tasks_told st) (head_or ((tasks_told st).task t).finishes 0)
awaits_is st p t r =
    let f = (st.task t).inner in
    let lives : ℕ → Bool = λ u. lives_in (st.task u) f in
    let c = p.counted f (p.inner_held t (running st t r).held) in
    ap (nat_lt 0) c ∙ sym (any_counts lives st.tasks) ∙ sym (any_held lives st.tasks st.tasks (omega arith)) ∙ sym (ap (lived (tasks_told st)) (head_is st t r))
