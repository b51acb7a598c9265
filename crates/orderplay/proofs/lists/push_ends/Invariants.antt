use Rattle.std.proofs.Common.{◌≡◌, ◌++◌, vec_items}
use Rattle.orderplay.specs.Lists.{ends_of}
use Rattle.orderplay.proofs.lists.push_ends.Given as goal

-- the tasks from i down are still to end
abbrev pub invariant-loop-i : goal.invariant-loop-i
invariant-loop-i l = vec_items l.calls ++ ends_of l.i ≡ vec_items l.fn.calls ++ ends_of l.n
