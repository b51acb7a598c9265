-- Any list of calls leads to an order that calls of running tasks reach.
use Rattle.std.proofs.lemmas.Bool.Decides.{nat_tests}
use Rattle.std.proofs.Common.{◌≡◌, ◌≤◌, ◌⊎◌, inl, inr, ℕ, suc, ◌<◌, Bool, true, false, not, T, List, [], ◌∷◌, Some, None, Option, refl, sym, subst, arith}
use Rattle.model.specs.Lists.{any, below, head_or}
use Rattle.model.specs.Orders.{Order, has_own, lived}
use Rattle.model.specs.Reached.{Reached, start, by_spawn, by_open, by_close, by_end}
use Rattle.model.specs.Shapes.{Stack}
use Rattle.model.proofs.Trees.Reached.{reached_shape, reached_laws}
use Rattle.order.specs.declared.fault.OrderFault.{OrderFault}
use Rattle.order.specs.declared.replay.OrderCall.{OrderCall}
use Rattle.order.specs.declared.replay.OrderCall.TheVariants.{Spawn, Open, Close, End}
use Rattle.order.specs.declared.replay.Standing.{Standing}
use Rattle.order.specs.Calls.{first, spawn_tests, open_tests, close_tests, end_tests, moved}
use Rattle.order.specs.Replays.{fault_of, order_made, after_call, after_calls, standing_in, neither}

-- a task that lives somewhere is held
lives_held : (limit : ℕ) (m : Order) → Reached limit m → (f u : ℕ) → T (m.lives f u) → u < m.tasks
lives_held limit _ start f u l = grind (arith, nat_tests, l)
lives_held limit _ (by_spawn m t r run) f u l = grind (arith, nat_tests, l, lives_held limit m r f u)
lives_held limit _ (by_open m t r run) f u l = lives_held limit m r f u l
lives_held limit _ (by_close m t g h fs r run own none) f u l = lives_held limit m r f u l
lives_held limit _ (by_end m t g r run own) f u l = grind (arith, nat_tests, l, lives_held limit m r f u)

-- a running task has a finish that it lives in
some_finish : (limit : ℕ) (m : Order) → Reached limit m → (t : ℕ) → T (m.task t).running → (m.task t).finishes ≡ [] → ⊥
some_finish limit m r t run e =
    let shape = (reached_shape limit m r).shape in
    let walks = shape.runner t run in
    subst (Stack m _ _ walks.path) e walks.stack

-- no test of a list passed
abbrev Failed : List (Bool × OrderFault) → Type 0
Failed [] = Unit {0}
Failed (p ∷ ps) = (p.0 ≡ false) × Failed ps

failed : (ps : List (Bool × OrderFault)) → first ps ≡ None → Failed ps
failed [] e = tt
failed ((true, f) ∷ ps) e = absurd (cc e)
failed ((false, f) ∷ ps) e = (refl, failed ps e)

runs : (b : Bool) → not b ≡ false → T b
runs true e = tt
runs false e = absurd (cc e)

-- a list that goes on after its first
two_are : (fs : List ℕ) → not (has_own fs) ≡ false → (g : ℕ) × (h : ℕ) × (rest : List ℕ) × (fs ≡ g ∷ (h ∷ rest))
two_are [] e = absurd (cc e)
two_are (g ∷ []) e = absurd (cc e)
two_are (g ∷ (h ∷ fs)) e = (g, h, fs, refl)

one_is : (fs : List ℕ) → has_own fs ≡ false → (fs ≡ [] → ⊥) → (g : ℕ) × (fs ≡ g ∷ [])
one_is [] e n = absurd (n refl)
one_is (g ∷ []) e n = (g, refl)
one_is (g ∷ (h ∷ fs)) e n = absurd (cc e)

none_passes : (p : ℕ → Bool) (n u : ℕ) → any p (below n) ≡ false → u < n → T (p u) → ⊥
none_passes p ℕ.zero u e l t = omega (arith, l)
none_passes p (suc n) u e l t = grind (arith, nat_tests, e, l, t, none_passes p n u)

pub call_reached : (limit : ℕ) (m : Order) → Reached limit m → (c : OrderCall) → fault_of m c ≡ None → Reached limit (order_made m c)
call_reached limit m r (Spawn t) e = by_spawn m t r (runs (m.task t).running (failed (spawn_tests m t) e).0)
call_reached limit m r (Open t) e = by_open m t r (runs (m.task t).running (failed (open_tests m t) e).0)
call_reached limit m r (Close t) e =
    let tests = failed (close_tests m t) e in
    let fs = two_are (m.task t).finishes tests.1.0 in
    let none = subst (λ l. lived m (head_or l 0) ≡ false) fs.3 tests.1.1.0 in
    by_close m t fs.0 fs.1 fs.2 r (runs (m.task t).running tests.0) fs.3
    (λ u l. none_passes (m.lives fs.0) m.tasks u none (lives_held limit m r fs.0 u l) l)
call_reached limit m r (End t) e =
    let tests = failed (end_tests m t) e in
    let run = runs (m.task t).running tests.0 in
    let f = one_is (m.task t).finishes tests.1.0 (some_finish limit m r t run) in
    by_end m t f.0 r run f.1

-- refused or not
either_reached : (limit : ℕ) (m : Order) → Reached limit m → (c : OrderCall) (o : Option OrderFault) → fault_of m c ≡ o → Reached limit (after_call m c)
either_reached limit m r c None e = subst (λ z. Reached limit (moved z m (order_made m c))) (sym e) (call_reached limit m r c e)
either_reached limit m r c (Some f) e = subst (λ z. Reached limit (moved z m (order_made m c))) (sym e) r

pub calls_reached : (limit : ℕ) (m : Order) → Reached limit m → (cs : List OrderCall) → Reached limit (after_calls m cs)
calls_reached limit m r [] = r
calls_reached limit m r (c ∷ cs) = calls_reached limit (after_call m c) (either_reached limit m r c (fault_of m c) refl) cs

-- a reached order says no of a step against itself, and of one that is not held
pub says_no : (limit : ℕ) (m : Order) → Reached limit m → (a b : ℕ) → (a ≡ b) ⊎ ((m.steps ≤ a) ⊎ (m.steps ≤ b))
    → standing_in m a b ≡ neither
says_no limit m r a b why =
    let laws = reached_laws limit m r in
    let late : T (m.earlier a b) → ⊥ = λ e. elim why [
      | inl same ↦ laws.earlier_irrefl b (subst (λ x. T (m.earlier x b)) same e)
      | inr (inl out) ↦ omega (arith, out, (laws.earlier_held a b e).0)
      | inr (inr out) ↦ omega (arith, out, (laws.earlier_held a b e).1)
    ] in
    no (m.before a b) (m.earlier a b) (λ e. late (laws.before_earlier a b e)) late
  where
    no : (p q : Bool) → (T p → ⊥) → (T q → ⊥) → ◌≡◌ {A = Standing} (record { before = p; earlier = q }) neither
    no true q f g = absurd (f tt)
    no false true f g = absurd (g tt)
    no false false f g = refl
