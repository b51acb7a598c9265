use Rattle.run.proofs.Replaying.{Made}
use Rattle.run.proofs.log.call_all.Given as goal

-- the calls up to here were made
abbrev pub invariant-loop-asked : goal.invariant-loop-asked
invariant-loop-asked g l =
    Made g.K.HappensBefore.meaning g.S.Store.meaning g.N.Store.meaning l.fn.run l.fn.log l.asked-items l.run l.asked-index
