use Rattle.std.proofs.Common.{◌≡◌}
use Rattle.orderplay.specs.Plays.{row_told}
use Rattle.orderplay.proofs.play.play_row.Given as goal

-- the steps below b are told
abbrev pub invariant-loop-b : goal.invariant-loop-b
invariant-loop-b g l = l.tally ≡ row_told (g.K.HappensBefore.meaning l.keeper) l.a l.b l.fn.tally
