use Rattle.std.proofs.Common.{◌≡◌, ◌+◌, length}
use Rattle.record.specs.Forms.{form_left}
use Rattle.record.proofs.form.FormBytes.width.Given as goal

-- what is counted and what is left are all
abbrev pub invariant-loop-number : goal.invariant-loop-number
invariant-loop-number l = l.width + length (form_left l.left) ≡ length (form_left l.fn.self)

abbrev pub decreases-loop-number : goal.decreases-loop-number
decreases-loop-number l = length (form_left l.left)
