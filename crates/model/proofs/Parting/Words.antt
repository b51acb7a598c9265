-- Answers that begin with the same test, and tables, histories and parts that are equal in each part.
use Rattle.std.proofs.Common.{◌≡◌, ℕ, Bool, cond, T, arith}
use Rattle.model.specs.declared.Mark.{Mark}
use Rattle.model.specs.declared.History.{History}
use Rattle.model.specs.Rules.{Answer, refused}
use Rattle.model.specs.Parts.{Keyed, Parts}

-- two answers that begin with the same test
pub stop_same : {C : Type 0} (a b : Bool) (n : ℕ) (x y : Answer C)
    → a ≡ b → ((T b → ⊥) → x ≡ y) → cond a (refused n) x ≡ cond b (refused n) y
stop_same a b n x y e f = grind arith

pub keyed_ext : {K V : Type 0} (s t : Keyed K V) → s.limit ≡ t.limit → s.count ≡ t.count → ((j : K) → s.find j ≡ t.find j) → s ≡ t
keyed_ext s t a b f = λ i. record { limit = a i; count = b i; find = λ j. f j i }

pub history_ext : (x y : History) → x.write ≡ y.write → x.left ≡ y.left → x.right ≡ y.right → x ≡ y
history_ext x y a b c = λ i. record { write = a i; left = b i; right = c i }

pub parts_ext : {C : Type 0} (p q : Parts C) → p.order ≡ q.order → p.cells ≡ q.cells → p.names ≡ q.names → p.count ≡ q.count → p ≡ q
parts_ext p q a b c d = λ i. record { order = a i; cells = b i; names = c i; count = d i }

pub mark_step : (a b n : ℕ) → a ≡ b → ◌≡◌ {A = Mark} (record { step = a; place = n }) (record { step = b; place = n })
mark_step a b n e = λ i. record { step = e i; place = n }
