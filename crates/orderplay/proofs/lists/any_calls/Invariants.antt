use Rattle.std.proofs.Common.{◌≡◌, vec_items}
use Rattle.orderplay.specs.Lists.{any_calls, after_any}
use Rattle.orderplay.proofs.lists.any_calls.Given as goal

-- so many calls are made, and rolled for
abbrev pub invariant-loop-call : goal.invariant-loop-call
invariant-loop-call l = record {
  made : vec_items l.calls ≡ any_calls l.fn.dice l._call;
  rolled : l.dice ≡ after_any l.fn.dice l._call;
}
