use Rattle.std.proofs.Common.{arith}
use Rattle.order.proofs.Trees.Growing.{grew_plain, grew_none, grew_more, grew_all}
use Rattle.order.proofs.tree.growth.regrow.Goals as goal

pub loop-call-init : goal.loop-call-init
loop-call-init c = let p = c.requires in grew_none _ _ c.clear.ensures.cleared (omega arith) p.limit_fits

pub make-requires : goal.make-requires
make-requires c = grew_plain c.loop-call.invariant

pub loop-call-preserved : goal.loop-call-preserved
loop-call-preserved c = grew_more _ _ _ c.args.calls.now c.loop-call.call-index _ c.loop-call-test.true c.make.ensures.kept c.loop-call.invariant

pub returns : goal.returns
returns c = record { grew = grew_all _ _ c.args.calls.now c.loop-call.call-index c.loop-call-test.false c.loop-call.invariant }
