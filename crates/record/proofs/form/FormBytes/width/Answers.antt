use Rattle.std.proofs.Common.{ap, length, length-append, arith}
use Rattle.record.specs.Forms.{form_left}
use Rattle.record.proofs.Forms.{form_left_le}
use Rattle.record.proofs.form.FormBytes.width.Goals as goal

pub overflow_add-width : goal.overflow_add-width
overflow_add-width c =
    omega (arith, c.loop-number.invariant, ap length c.in-Some.ensures.2, length-append (form_left c.in-Some.number) (form_left c.next_form.new.self), c.counted-width.ensures.value, form_left_le c.args.self.now)

pub loop-number-preserved : goal.loop-number-preserved
loop-number-preserved c =
    omega (arith, c.loop-number.invariant, ap length c.in-Some.ensures.2, length-append (form_left c.in-Some.number) (form_left c.next_form.new.self), c.counted-width.ensures.value)

pub returns-clause-bound : goal.returns-clause-bound
returns-clause-bound c = omega (arith, c.loop-number.invariant, form_left_le c.args.self.now)
