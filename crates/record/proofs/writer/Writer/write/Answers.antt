-- The lead is laid, and then each number is the first of those that were left.
use Rattle.std.proofs.Common.{◌≡◌, ◌++◌, refl, ap, length, rules, length-append, arith}
use Rattle.record.specs.Numbers.{numbers_form}
use Rattle.record.specs.Forms.{form_left}
use Rattle.record.proofs.Writing.{laid_but_all, laid_but_more}
use Rattle.record.proofs.writer.Writer.write.Goals as goal

pub loop-number-init : goal.loop-number-init
loop-number-init c =
    let lead = c.args.lead.now in
    let forms = numbers_form c.args.numbers.now in
    let same : form_left c.in_ok-form.form ≡ forms = search rules in
    let start = laid_but_all c.args.self.now (lead ++ forms) (omega (arith, ap length same, length-append lead forms)) in
    rw same (laid_but_more lead forms refl start c.lay.ensures)

pub loop-number-preserved : goal.loop-number-preserved
loop-number-preserved c = laid_but_more (form_left c.in-Some.number) _ c.in-Some.ensures.2 c.loop-number.invariant c.lay_form.ensures
