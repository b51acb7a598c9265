-- Happens-before is a strict order: whatever is before stands at an earlier place.
use Rattle.std.proofs.Common.{ℕ, arith}
use Rattle.model.specs.Past.{Past}
use Rattle.model.specs.Before.{HappensBefore}
use Rattle.model.proofs.Shelf.Befores.{happens_lt}

pub before_irrefl : {C : Type 0} (h : Past C) (i : ℕ) → HappensBefore h i i → ⊥
before_irrefl h i b = let r = happens_lt h i i b in omega arith

pub before_asym : {C : Type 0} (h : Past C) (i j : ℕ) → HappensBefore h i j → HappensBefore h j i → ⊥
before_asym h i j a b = let p = happens_lt h i j a in let q = happens_lt h j i b in omega arith
