-- The theorem is proved in `Whole`.
use Rattle.model.proofs.Whole.{races_real}
use Rattle.model.proofs.laws.race_is_real_and_latest.Goals as goal

pub returns : goal.returns
returns g c = record { real = races_real }
