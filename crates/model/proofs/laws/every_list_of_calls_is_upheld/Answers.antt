-- The theorem is proved in `Whole`.
use Rattle.model.proofs.Whole.{upheld}
use Rattle.model.proofs.laws.every_list_of_calls_is_upheld.Goals as goal

pub returns : goal.returns
returns g c = record { upheld = upheld }
