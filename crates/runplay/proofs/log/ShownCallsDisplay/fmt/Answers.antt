-- One more call is written.
use Rattle.runplay.proofs.Rows.{row_written}
use Rattle.runplay.proofs.log.ShownCallsDisplay.fmt.Goals as goal

pub loop-place-preserved : goal.loop-place-preserved
loop-place-preserved g c =
    row_written _ _ _ _ _ _ _ _ _ _ _ c.loop-place-test.true c.lead.ensures.value c.in_ok-write.was c.loop-place.invariant c.write.ensures.writes
