-- The theorem is proved in `Whole`.
use Rattle.model.proofs.Whole.{steps_tell}
use Rattle.model.proofs.laws.steps_tell_events.Goals as goal

pub returns : goal.returns
returns g c = record { linked = steps_tell }
