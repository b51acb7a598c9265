-- The theorems are proved in `TwoReaders` and `TwoFound`, for an order with the laws of a reached one.
use Rattle.model.proofs.Trees.Reached.{reached_laws}
use Rattle.model.proofs.TwoFound.{two_found}
use Rattle.model.proofs.TwoReaders.{two_suffice, two_kept}
use Rattle.model.proofs.laws.two_readers_suffice.Goals as goal

pub returns : goal.returns
returns c =
    record {
      found = λ limit m r. two_found m (reached_laws limit m r);
      suffice = λ limit m r. two_suffice m (reached_laws limit m r);
      kept = λ limit m r. two_kept m (reached_laws limit m r);
    }
