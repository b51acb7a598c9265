use Rattle.std.proofs.Common.{sym, ◌∙◌}
use Rattle.run.proofs.Admitting.{kept_fault}
use Rattle.run.proofs.parts.Parts.take.Goals as goal

pub returns-in_err-number-clause-kept : goal.returns-in_err-number-clause-kept
returns-in_err-number-clause-kept g c = kept_fault c.args.limit _ c.args.event c.in_err-number.field-0.0 (sym c.admit.ensures ∙ c.in_err-number.was)
