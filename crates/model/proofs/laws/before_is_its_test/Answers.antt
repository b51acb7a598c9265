-- The theorem is proved in `Whole`.
use Rattle.model.proofs.Whole.{strict_order, told_same}
use Rattle.model.proofs.laws.before_is_its_test.Goals as goal

pub returns : goal.returns
returns g c = record { strict = strict_order; told = told_same }
