use Rattle.std.proofs.Common.{arith}
use Rattle.orderplay.proofs.Listed.{down_more, down_all}
use Rattle.orderplay.proofs.lists.push_ends.Goals as goal

pub loop-i-preserved : goal.loop-i-preserved
loop-i-preserved c = down_more _ c.loop-i.i _ _ _ _ _ _ _ (omega arith) c.loop-i.invariant
    c.in_ok-push.ensures.items c.in_ok-push-2.ensures.items (cc)

pub returns : goal.returns
returns c = down_all _ c.loop-i.i _ _ (omega arith) c.loop-i.invariant
