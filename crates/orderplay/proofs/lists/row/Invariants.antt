use Rattle.std.proofs.Common.{◌≡◌, vec_items}
use Rattle.orderplay.specs.Lists.{row_of}
use Rattle.orderplay.proofs.lists.row.Given as goal

abbrev pub invariant-loop-i : goal.invariant-loop-i
invariant-loop-i l = vec_items l.calls ≡ row_of l.i
