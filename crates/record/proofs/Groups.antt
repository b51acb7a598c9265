-- How the groups of a number follow one another.
use Rattle.std.proofs.Common.{◌≡◌, ℕ, suc, ◌+◌, ◌*◌, ◌/◌, ◌%◌, ◌<◌, ◌≤◌, [], ◌∷◌, arith}
use Rattle.std.proofs.lemmas.Bool.Decides.{nat_tests}
use Rattle.record.specs.Numbers.{groups}

pub groups_last : (k n : ℕ) → n < 128 → groups (suc k) n ≡ n ∷ []
groups_last k n h = grind (arith, nat_tests)

pub groups_more : (k n : ℕ) → 128 ≤ n → groups (suc k) n ≡ (128 + n % 128) ∷ groups k (n / 128)
groups_more k n h = grind (arith, nat_tests)

-- a group in front of a number that is not 0
pub groups_cons : (k c m : ℕ) → c < 128 → 0 < m → groups (suc k) (c + m * 128) ≡ (128 + c) ∷ groups k m
groups_cons k c m h p = grind (arith, nat_tests)
