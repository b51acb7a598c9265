use Rattle.order.proofs.Trees.Kept.{tree_keeps}
use Rattle.order.proofs.tree.TreeKeeper.new.Goals as goal

pub over-requires : goal.over-requires
over-requires c = ∣ tree_keeps ∣₁
