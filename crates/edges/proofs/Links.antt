-- Links from a step back to the one it comes from, and the ways to the steps that are made of them.
use Rattle.std.proofs.Common.{◌≡◌, ℕ, zero, suc, ◌+◌, ◌<◌, ◌≤◌, T, [], ◌∷◌, ◌++◌, refl, ap, ◌∙◌, inl, inr, arith}
use Rattle.std.proofs.lemmas.Bool.{cases_lt}
use Rattle.std.proofs.lemmas.Bool.Decides.{nat_tests}
use Rattle.model.specs.Orders.{Order}
use Rattle.model.specs.Reached.{Reached, start, by_spawn, by_open, by_close, by_end}
use Rattle.model.proofs.Trees.Reached.{reached_laws}
use Rattle.model.proofs.Shelf.Tests.{cond_ne}
use Rattle.edges.specs.Ways.{Ways, spawn_ways, next_ways, close_ways, ways_of, way_in, way}

-- below n, each step but 0 comes from a lower one
abbrev pub Falls : Ways → ℕ → Type 0
Falls w n = (x : ℕ) → 0 < x → x < n → w.from x < x

-- the fuel does not matter, if there is enough of it
pub way_fuel : (w : Ways) (n : ℕ) → Falls w n → (k j x : ℕ) → x < n → x ≤ k → x ≤ j → way_in w k x ≡ way_in w j x
way_fuel w n f zero zero x l a b = refl
way_fuel w n f zero (suc j) x l a b = grind arith
way_fuel w n f (suc k) zero x l a b = grind arith
way_fuel w n f (suc k) (suc j) x l a b = grind (arith, way_fuel w n f k j)

-- the way to a step goes by the one it comes from
pub way_last : (w : Ways) (n : ℕ) → Falls w n → (x : ℕ) → 0 < x → x < n → way w x ≡ way w (w.from x) ++ (x ∷ [])
way_last w n f zero p l = absurd (omega arith)
way_last w n f (suc k) p l =
    let h = f (suc k) p l in
    cond_ne (suc k) 0 [] (way_in w k (w.from (suc k)) ++ (suc k ∷ [])) (λ e. omega arith)
    ∙ ap (λ z. z ++ (suc k ∷ [])) (way_fuel w n f k (w.from (suc k)) (w.from (suc k)) (omega arith) (omega arith) (omega arith))

-- w with new steps from n on, all of which come from s
pub record Grown (n new s : ℕ) (w v : Ways) : Type 0 where
  pub old : (x : ℕ) → x < n → v.from x ≡ w.from x
  pub fresh : (x : ℕ) → n ≤ x → x < n + new → v.from x ≡ s

pub spawn_grown : (m : Order) (t : ℕ) (w : Ways) → Grown m.steps 2 (m.task t).current w (spawn_ways m t w)
spawn_grown m t w = record { old = λ x l. grind arith; fresh = λ x a b. grind arith }

pub next_grown : (m : Order) (t : ℕ) (w : Ways) → Grown m.steps 1 (m.task t).current w (next_ways m t w)
next_grown m t w = record { old = λ x l. grind arith; fresh = λ x a b. grind arith }

pub close_grown : (m : Order) (t : ℕ) (w : Ways) → Grown m.steps 1 (m.task t).current w (close_ways m t w)
close_grown m t w = record { old = (next_grown m t w).old; fresh = (next_grown m t w).fresh }

-- new steps come from a lower one too
grown_falls : (n new s : ℕ) (w v : Ways) → Grown n new s w v → s < n → Falls w n → Falls v (n + new)
grown_falls n new s w v g l f x p q = elim (cases_lt x n) [
  | inl h ↦ (let a = f x p h in let b = g.old x h in omega arith)
  | inr h ↦ (let b = g.fresh x h q in omega arith)
]

-- in a reached order, each step but 0 comes from a lower one
pub from_less : (limit : ℕ) (m : Order) (r : Reached limit m) (x : ℕ) → 0 < x → x < m.steps → (ways_of r).from x < x
from_less limit m start x p l = absurd (omega arith)
from_less limit m (by_spawn o t r run) x p l =
    grown_falls o.steps 2 (o.task t).current (ways_of r) (spawn_ways o t (ways_of r)) (spawn_grown o t (ways_of r))
    ((reached_laws limit o r).current_held t run) (from_less limit o r) x p l
from_less limit m (by_open o t r run) x p l =
    grown_falls o.steps 1 (o.task t).current (ways_of r) (next_ways o t (ways_of r)) (next_grown o t (ways_of r))
    ((reached_laws limit o r).current_held t run) (from_less limit o r) x p l
from_less limit m (by_close o t f g fs r run own none) x p l =
    grown_falls o.steps 1 (o.task t).current (ways_of r) (close_ways o t (ways_of r)) (close_grown o t (ways_of r))
    ((reached_laws limit o r).current_held t run) (from_less limit o r) x p l
from_less limit m (by_end o t f r run own) x p l = from_less limit o r x p l

-- and the way to it goes by that one
pub way_step : (limit : ℕ) (m : Order) (r : Reached limit m) (x : ℕ) → 0 < x → x < m.steps
    → way (ways_of r) x ≡ way (ways_of r) ((ways_of r).from x) ++ (x ∷ [])
way_step limit m r x p l = way_last (ways_of r) m.steps (from_less limit m r) x p l

-- the ways to old steps are as they were
pub way_old : (n new s : ℕ) (w v : Ways) → Grown n new s w v → Falls w n → (k x : ℕ) → x < n → way_in v k x ≡ way_in w k x
way_old n new s w v g f zero x l = refl
way_old n new s w v g f (suc k) x l = grind (arith, way_old n new s w v g f k, g.old)

-- the way to a new step goes by s
pub way_fresh : (n new s : ℕ) (w v : Ways) → Grown n new s w v → s < n → Falls w n → (x : ℕ) → n ≤ x → x < n + new
    → way v x ≡ way w s ++ (x ∷ [])
way_fresh n new s w v g l f x a b =
    way_last v (n + new) (grown_falls n new s w v g l f) x (omega arith) b
    ∙ ap (λ z. way v z ++ (x ∷ [])) (g.fresh x a b) ∙ ap (λ z. z ++ (x ∷ [])) (way_old n new s w v g f s s l)

-- a step is after the one it comes from
pub from_before : (limit : ℕ) (m : Order) (r : Reached limit m) (x : ℕ) → 0 < x → x < m.steps → T (m.before ((ways_of r).from x) x)
from_before limit m start x p l = absurd (omega arith)
from_before limit m (by_spawn o t r run) x p l = grind (arith, nat_tests, from_before limit o r)
from_before limit m (by_open o t r run) x p l = grind (arith, nat_tests, from_before limit o r)
from_before limit m (by_close o t f g fs r run own none) x p l = grind (arith, nat_tests, from_before limit o r)
from_before limit m (by_end o t f r run own) x p l = from_before limit o r x p l
