-- A reader that goes on past a form.
use Rattle.std.proofs.Common.{◌≡◌, ℕ, ◌+◌, ◌≤◌, List, ◌++◌, length, ap, arith, length-append}

module _ (left form rest : List ℕ) (cut : left ≡ form ++ rest) where
  pub rest_within : length rest ≤ length left
  rest_within = omega (arith, ap length cut, length-append form rest)

  -- after is what the reader stands before then, and to its place
  pub passed : (after : List ℕ) (from to : ℕ) → after ≡ rest → to + length rest ≡ from + length left → (left ≡ form ++ after) × (to ≡ from + length form)
  passed after from to e p = (rw e cut, omega (arith, ap length cut, length-append form rest))
