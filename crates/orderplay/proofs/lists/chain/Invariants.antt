use Rattle.std.proofs.Common.{◌≡◌, vec_items}
use Rattle.orderplay.specs.Lists.{chain_of}
use Rattle.orderplay.proofs.lists.chain.Given as goal

abbrev pub invariant-loop-i : goal.invariant-loop-i
invariant-loop-i l = vec_items l.calls ≡ chain_of l.i
