-- A task that may end lives in its innermost finish, so a task lives there.
use Rattle.std.proofs.lemmas.Bool.{cases_eq, eq-eqb}
use Rattle.std.proofs.Common.{◌≡◌, ℕ, suc, ◌<◌, Bool, true, false, cond, ◌⊎◌, inl, inr, None, refl, sym, ap, ◌∙◌, arith}
use Rattle.order.specs.Calls.{end_fault}
use Rattle.order.specs.States.{State, tasks_told, lives_in}
use Rattle.order.specs.Invariants.{Plain, count, foot}
use Rattle.order.proofs.Books.Telling.{end_ready}

count_some : (p : ℕ → Bool) (n t : ℕ) → t < n → p t ≡ true → 0 < count p n
count_some p ℕ.zero t l h = absurd (omega (arith, l))
count_some p (suc n) t l h = go (p n) refl (cases_eq t n) (count_some p n t)
  where
    go : (b : Bool) → p n ≡ b → (t ≡ n) ⊎ (t ≡ n → ⊥) → (t < n → p t ≡ true → 0 < count p n) → 0 < cond b (suc (count p n)) (count p n)
    go true e s r = omega arith
    go false e (inl s) r = absurd (grind (arith, ap p s, h, e))
    go false e (inr d) r = r (omega (arith, l, d)) h

pub ends_alive : (st : State) → Plain st → (t : ℕ) → end_fault (tasks_told st) t ≡ None → 0 < (st.finish (st.task t).inner).alive
ends_alive st p t h =
    let r = end_ready st p t h in
    let f = (st.task t).inner in
    let home : (st.task t).inner ≡ (st.task t).home = ap (λ n. foot st.finish n (st.task t).inner) (sym r.2) ∙ p.footed t r.0 in
    let lives : lives_in (st.task t) f ≡ true = grind (arith, r.1, home, eq-eqb (st.task t).home f (sym home)) in
    let some = count_some (λ u. lives_in (st.task u) f) st.tasks t r.0 lives in
    omega (arith, p.counted f (p.inner_held t r.0), some)
