-- The theorem is proved in `Parting`.
use Rattle.model.proofs.Parting.ByParts.{judged_by_parts}
use Rattle.model.proofs.Parting.Calls.{answered_by_parts}
use Rattle.model.proofs.laws.judged_by_parts.Goals as goal

pub returns : goal.returns
returns g c = record { judged = judged_by_parts; answered = answered_by_parts }
