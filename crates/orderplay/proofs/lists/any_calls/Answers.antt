use Rattle.std.proofs.Common.{sym}
use Rattle.orderplay.proofs.Listed.{any_calls_none, after_any_none, call_more, dice_more}
use Rattle.orderplay.proofs.lists.any_calls.Goals as goal

pub loop-call-init : goal.loop-call-init
loop-call-init c = record {
  made = rw any_calls_none cc;
  rolled = sym (after_any_none c.args.dice.now);
}

pub loop-call-preserved : goal.loop-call-preserved
loop-call-preserved c = record {
  made = call_more c.args.dice.now c.loop-call._call _ _ _ _ _ _ _ _ _ _ c.loop-call.invariant.rolled c.loop-call.invariant.made
      c.roll-kind.ensures.rolled c.roll-kind.ensures.value c.roll-last.ensures.rolled c.roll-last.ensures.value c.roll-task.ensures.value
      c.from.ensures c.call_of.ensures.value c.in_ok-push.ensures.items;
  rolled = dice_more c.args.dice.now c.loop-call._call _ _ _ _ c.loop-call.invariant.rolled c.roll-kind.ensures.rolled
      c.roll-last.ensures.rolled c.roll-task.ensures.rolled;
}
