-- Sums and products in 64 bits are those of numbers, in 64 bits.
use Rattle.std.proofs.Common.{arith}
use Rattle.cells.proofs.key.CellStoreKey.hash.Goals as goal

pub returns : goal.returns
returns c = record { value = omega arith }
