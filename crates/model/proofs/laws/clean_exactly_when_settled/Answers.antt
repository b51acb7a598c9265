-- The theorem is proved in `Whole`.
use Rattle.model.proofs.Whole.{clean_settled}
use Rattle.model.proofs.laws.clean_exactly_when_settled.Goals as goal

pub returns : goal.returns
returns g c = record { settled = clean_settled }
