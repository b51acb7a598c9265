-- The theorem is proved in `Trees`.
use Rattle.model.proofs.Trees.Reached.{reached_labels, reached_shape, reached_laws}
use Rattle.model.proofs.laws.reached_orders_have_trees.Goals as goal

pub returns : goal.returns
returns c = record { labels = reached_labels; shape = reached_shape; laws = reached_laws }
