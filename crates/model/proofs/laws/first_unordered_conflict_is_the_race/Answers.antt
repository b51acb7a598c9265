-- The theorem is proved in `Whole`.
use Rattle.model.proofs.Whole.{first_named}
use Rattle.model.proofs.laws.first_unordered_conflict_is_the_race.Goals as goal

pub returns : goal.returns
returns g c = record { first = first_named }
