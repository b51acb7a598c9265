use Rattle.std.proofs.Common.{refl}
use Rattle.run.proofs.Leading.{count_told}
use Rattle.run.proofs.run.Run.taken.Goals as goal

pub returns : goal.returns
returns g c = record { value = refl; lawful = count_told _ _ _ c.args.self.now }
