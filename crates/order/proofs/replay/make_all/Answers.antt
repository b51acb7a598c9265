use Rattle.std.proofs.Common.{ap}
use Rattle.order.specs.Replays.{after_calls}
use Rattle.order.proofs.Replays.Replaying.{calls_more, calls_all}
use Rattle.order.proofs.replay.make_all.Goals as goal

pub loop-call-init : goal.loop-call-init
loop-call-init g c = ap (λ m. after_calls m c.args.calls.now) c.empty.ensures.kept

pub loop-call-preserved : goal.loop-call-preserved
loop-call-preserved g c = calls_more c.args.calls.now c.loop-call.call-index _ _ _ _ c.loop-call-test.true c.make.ensures.kept c.loop-call.invariant

pub returns : goal.returns
returns g c = record { kept = calls_all c.args.calls.now c.loop-call.call-index _ _ c.loop-call-test.false c.loop-call.invariant }
