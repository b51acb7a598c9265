use Rattle.std.proofs.Common.{[]}
use Rattle.orderplay.proofs.Listed.{blocks_none, one_more}
use Rattle.orderplay.proofs.lists.chain.Goals as goal

pub loop-i-init : goal.loop-i-init
loop-i-init c = rw blocks_none cc

pub loop-i-preserved : goal.loop-i-preserved
loop-i-preserved c = one_more _ c.loop-i.i [] _ _ _ c.loop-i.invariant c.in_ok-push.ensures.items (cc)
