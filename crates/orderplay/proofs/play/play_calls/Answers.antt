use Rattle.order.proofs.Replays.Replaying.{calls_more}
use Rattle.orderplay.proofs.Told.{told_more, last_held}
use Rattle.orderplay.proofs.play.play_calls.Goals as goal

pub loop-call-preserved : goal.loop-call-preserved
loop-call-preserved g c = record {
  kept = calls_more c.args.calls.now c.loop-call.call-index _ _ _ _ c.loop-call-test.true c.make-answer.ensures.kept
      c.loop-call.invariant.kept;
  last = last_held c.args.calls.now c.loop-call.call-index _ (g.K.HappensBefore.meaning c.loop-call.keeper) _ _ _ _
      c.loop-call.invariant.last c.make-answer.ensures.answered c.last_step-last.ensures.value c.make-answer.ensures.kept;
  told = told_more c.args.calls.now c.loop-call.call-index _ _ _ _ _ _ _ c.loop-call-test.true c.make-answer.ensures.kept
      c.make-answer.ensures.answered c.call.ensures.told c.loop-call.invariant.told;
}
