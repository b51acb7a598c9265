use Rattle.run.proofs.Replaying.{none_made, one_made, all_made}
use Rattle.run.proofs.log.call_all.Goals as goal

pub loop-asked-init : goal.loop-asked-init
loop-asked-init g c = none_made _ _ _ _ _

pub loop-asked-preserved : goal.loop-asked-preserved
loop-asked-preserved g c =
    one_made _ _ _ _ _ _ _ _ _ _ c.call.result c.loop-asked-test.true c.loop-asked.auto.asked-items c.call.ensures.answered
    c.loop-asked.invariant

pub returns : goal.returns
returns g c = record {
  replayed = all_made _ _ _ _ _ _ _ _ c.loop-asked-test.false c.loop-asked.auto.asked-items c.loop-asked.invariant;
}
