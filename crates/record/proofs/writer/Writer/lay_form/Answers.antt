-- Each byte is the first of those that were left.
use Rattle.std.proofs.Common.{[], ◌∷◌}
use Rattle.record.proofs.Writing.{laid_but_more}
use Rattle.record.proofs.writer.Writer.lay_form.Goals as goal

pub loop-byte-preserved : goal.loop-byte-preserved
loop-byte-preserved c = (tt, tt, laid_but_more (c.in-Some.byte ∷ []) _ c.in-Some.ensures.steps c.loop-byte.invariant.2 c.lay.ensures)
