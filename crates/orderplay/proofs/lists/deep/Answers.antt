use Rattle.std.proofs.Common.{[]}
use Rattle.orderplay.proofs.Listed.{blocks_none, two_more}
use Rattle.orderplay.proofs.lists.deep.Goals as goal

pub loop-i-init : goal.loop-i-init
loop-i-init c = rw blocks_none cc

pub loop-i-preserved : goal.loop-i-preserved
loop-i-preserved c = two_more _ c.loop-i.i [] _ _ _ _ _ c.loop-i.invariant
    c.in_ok-push.ensures.items c.in_ok-push-2.ensures.items (cc)
