use Rattle.std.proofs.Common.{◌≡◌, ◌++◌, replicate, vec_items}
use Rattle.orderplay.proofs.lists.push_times.Given as goal

abbrev pub invariant-loop-time : goal.invariant-loop-time
invariant-loop-time l = vec_items l.calls ≡ vec_items l.fn.calls ++ replicate l._time l.call
