use Rattle.std.proofs.Common.{◌++◌, length}
use Rattle.record.specs.Numbers.{numbers_form}
use Rattle.record.specs.Forms.{form_left}
use Rattle.record.proofs.Writing.{LaidBut}
use Rattle.record.proofs.writer.Writer.write.Given as goal

-- the lead and the numbers so far are laid
abbrev pub invariant-loop-number : goal.invariant-loop-number
invariant-loop-number l = LaidBut (form_left l.left) (l.lead ++ numbers_form l.numbers) l.fn.self l.self

abbrev pub decreases-loop-number : goal.decreases-loop-number
decreases-loop-number l = length (form_left l.left)
