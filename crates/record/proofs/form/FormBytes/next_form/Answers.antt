use Rattle.std.proofs.Common.{refl, arith}
use Rattle.record.proofs.Forms.{form_taken}
use Rattle.record.proofs.form.FormBytes.next_form.Goals as goal

pub invariant_of-result : goal.invariant_of-result
invariant_of-result c = record { number_fits = λ x e. grind (arith, c.in_ok-number.ensures); rest_fits = tt }

pub returns : goal.returns
returns c =
    let taken = form_taken c.args.self.now c.next_number.new.self c.in_ok-number.number c.in_ok-number.ensures in
    (refl, taken.0, taken.1)
