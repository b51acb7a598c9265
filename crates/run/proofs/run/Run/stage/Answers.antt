use Rattle.std.proofs.Common.{refl}
use Rattle.run.proofs.Leading.{stage_told}
use Rattle.run.proofs.run.Run.stage.Goals as goal

pub returns : goal.returns
returns g c = record { value = refl; lawful = stage_told _ _ _ c.args.self.now }
