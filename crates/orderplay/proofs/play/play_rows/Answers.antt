use Rattle.std.proofs.Common.{sym}
use Rattle.orderplay.proofs.Told.{rows_none, rows_next}
use Rattle.orderplay.proofs.play.play_rows.Goals as goal

pub loop-a-init : goal.loop-a-init
loop-a-init g c = sym (rows_none _ _ _)

pub loop-a-preserved : goal.loop-a-preserved
loop-a-preserved g c = rw rows_next cc
