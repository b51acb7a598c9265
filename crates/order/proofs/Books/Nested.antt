-- The finishes of a task, and the one that it lives in, where the finishes around others stay what they were.
use Rattle.std.proofs.Common.{◌≡◌, ℕ, suc, ◌-◌, ◌<◌, List, ◌∷◌, refl, ap, ◌∙◌, arith}
use Rattle.model.specs.Lists.{rest}
use Rattle.order.specs.declared.record.FinishRow.{FinishRow}
use Rattle.order.specs.States.{chain}
use Rattle.order.specs.Invariants.{foot}

-- below b, the finishes around others stay below b, and are the same
pub record Around (fin fin₂ : ℕ → FinishRow) (b : ℕ) : Type 0 where
  pub stays : (f : ℕ) → f < b → (fin f).outer < b
  pub same : (f : ℕ) → f < b → (fin₂ f).outer ≡ (fin f).outer

module _ (fin fin₂ : ℕ → FinishRow) (b : ℕ) (w : Around fin fin₂ b) where
  pub chain_same : (n f : ℕ) → f < b → chain fin₂ n f ≡ chain fin n f
  chain_same ℕ.zero f h = refl
  chain_same (suc n) f h = ap (λ x. f ∷ chain fin₂ n x) (w.same f h) ∙ ap (λ xs. f ∷ xs) (chain_same n (fin f).outer (w.stays f h))

  pub foot_same : (n f : ℕ) → f < b → foot fin₂ n f ≡ foot fin n f
  foot_same ℕ.zero f h = refl
  foot_same (suc n) f h = ap (foot fin₂ n) (w.same f h) ∙ foot_same n (fin f).outer (w.stays f h)

-- without the innermost of the task's own finishes
pub chain_rest : (fin : ℕ → FinishRow) (n f : ℕ) → 0 < n → rest (chain fin n f) ≡ chain fin (n - 1) (fin f).outer
chain_rest fin ℕ.zero f h = absurd (omega (arith, h))
chain_rest fin (suc n) f h = ap (λ k. chain fin k (fin f).outer) (let e : n ≡ suc n - 1 = omega arith in e)

pub foot_rest : (fin : ℕ → FinishRow) (n f : ℕ) → 0 < n → foot fin (n - 1) (fin f).outer ≡ foot fin n f
foot_rest fin ℕ.zero f h = absurd (omega (arith, h))
foot_rest fin (suc n) f h = ap (λ k. foot fin k (fin f).outer) (let e : suc n - 1 ≡ n = omega arith in e)

-- with one of its own, a task has two finishes or more
pub chain_two : (fin : ℕ → FinishRow) (n f : ℕ) → 0 < n → (g : ℕ) × (fs : List ℕ) × (chain fin n f ≡ f ∷ (g ∷ fs))
chain_two fin ℕ.zero f h = absurd (omega (arith, h))
chain_two fin (suc ℕ.zero) f h = ((fin f).outer, _, refl)
chain_two fin (suc (suc n)) f h = ((fin f).outer, _, refl)
