use Rattle.std.proofs.Common.{inl, arith}
use Rattle.record.proofs.Forms.{form_left_le}
use Rattle.record.proofs.form.FormBytes.counted.Goals as goal

pub count-requires-clause-fits : goal.count-requires-clause-fits
count-requires-clause-fits c = inl (omega (arith, form_left_le c.args.self.now))

pub returns-clause-bound : goal.returns-clause-bound
returns-clause-bound c = omega (arith, form_left_le c.args.self.now)
