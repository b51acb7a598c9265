use Rattle.run.proofs.Leading.{lawful}
use Rattle.run.proofs.run.Run.seal.Goals as goal

pub returns : goal.returns
returns g c = record {
  answered = c.seal_placed.ensures.answered;
  lawful = lawful _ _ _ _ _ _ _ c.seal_placed.ensures.answered;
  handed_back = c.seal_placed.ensures.handed_back;
}
