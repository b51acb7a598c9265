-- The theorem is proved in `Parting`.
use Rattle.model.proofs.Parting.ByParts.{marks_kept}
use Rattle.model.proofs.laws.marks_are_kept.Goals as goal

pub returns : goal.returns
returns g c = record { kept = marks_kept }
