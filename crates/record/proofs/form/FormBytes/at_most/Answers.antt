use Rattle.record.proofs.Forms.{form_left_le}
use Rattle.record.proofs.form.FormBytes.at_most.Goals as goal

pub returns-clause-bound : goal.returns-clause-bound
returns-clause-bound c = form_left_le c.args.self.now
