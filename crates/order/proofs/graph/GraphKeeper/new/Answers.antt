use Rattle.order.proofs.Graphs.Kept.{graph_keeps}
use Rattle.order.proofs.graph.GraphKeeper.new.Goals as goal

pub over-requires : goal.over-requires
over-requires c = ∣ graph_keeps ∣₁
