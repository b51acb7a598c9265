-- The loop feeds on, one event a round.
use Rattle.std.proofs.Common.{length}
use Rattle.record.specs.Readers.{left_of}
use Rattle.checker.proofs.Fed.{FedSoFar}
use Rattle.checker.proofs.feeding.feed_all.Given as goal

-- what stands between the start and the reader was fed, with no race
abbrev pub invariant-loop-event : goal.invariant-loop-event
invariant-loop-event g l =
    FedSoFar g.K.HappensBefore.meaning g.S.Store.meaning g.N.Store.meaning l.initial.reader l.initial.run l.reader l.run

abbrev pub decreases-loop-event : goal.decreases-loop-event
decreases-loop-event g l = length (left_of l.reader)
