use Rattle.std.proofs.Common.{◌≡◌}
use Rattle.orderplay.specs.Plays.{rows_told}
use Rattle.orderplay.proofs.play.play_rows.Given as goal

-- the steps below a are told
abbrev pub invariant-loop-a : goal.invariant-loop-a
invariant-loop-a g l = l.tally ≡ rows_told (g.K.HappensBefore.meaning l.keeper) l.a l.end l.fn.tally
