use Rattle.run.proofs.Leading.{lawful}
use Rattle.run.proofs.run.Run.take.Goals as goal

pub returns : goal.returns
returns g c = record { answered = c.take_placed.ensures.answered; lawful = lawful _ _ _ _ _ _ _ c.take_placed.ensures.answered }
