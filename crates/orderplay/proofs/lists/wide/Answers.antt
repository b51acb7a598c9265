use Rattle.std.proofs.Common.{[], ◌∷◌}
use Rattle.order.specs.declared.replay.OrderCall.TheVariants.{Open}
use Rattle.orderplay.proofs.Listed.{blocks_none, two_more}
use Rattle.orderplay.proofs.lists.wide.Goals as goal

pub loop-i-init : goal.loop-i-init
loop-i-init c = rw blocks_none c.in_ok-calls.ensures.items

pub loop-i-preserved : goal.loop-i-preserved
loop-i-preserved c = two_more _ c.loop-i.i (Open 0 ∷ []) _ _ _ _ _ c.loop-i.invariant
    c.in_ok-push.ensures.items c.in_ok-push-2.ensures.items (cc)
