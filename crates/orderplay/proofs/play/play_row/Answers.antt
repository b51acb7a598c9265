use Rattle.std.proofs.Common.{sym}
use Rattle.orderplay.proofs.Told.{row_none, row_next}
use Rattle.orderplay.proofs.play.play_row.Goals as goal

pub loop-b-init : goal.loop-b-init
loop-b-init g c = sym (row_none _ _ _)

pub loop-b-preserved : goal.loop-b-preserved
loop-b-preserved g c = rw row_next cc
