-- The theorem is proved in `Whole`.
use Rattle.model.proofs.Whole.{any_order}
use Rattle.model.proofs.laws.any_order_is_as_good.Goals as goal

pub returns : goal.returns
returns g c = record { clean = any_order }
