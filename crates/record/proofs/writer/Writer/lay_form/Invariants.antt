use Rattle.record.specs.Forms.{form_left}
use Rattle.record.proofs.Writing.{LaidBut}
use Rattle.record.proofs.writer.Writer.lay_form.Given as goal

-- the bytes so far are laid
abbrev pub invariant-loop-byte : goal.invariant-loop-byte
invariant-loop-byte l = (goal.iterator-loop-byte).can_next l.byte-iterator × (goal.iterator-loop-byte).is_finite l.byte-iterator × LaidBut (form_left l.byte-iterator) (form_left l.form) l.fn.self l.self
