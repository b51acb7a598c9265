use Rattle.std.proofs.Math.Logic.{∥∥₁_elim}
use Rattle.std.proofs.Props.{props}
use Rattle.order.specs.States.{state_of}
use Rattle.order.proofs.Graphs.Searching.{searchable}
use Rattle.order.proofs.graph.GraphPlanned.before.Goals as goal

pub searched-requires-clause-searchable : goal.searched-requires-clause-searchable
searched-requires-clause-searchable c = ∥∥₁_elim c.requires.sound (Prim.hlevel props) (searchable (state_of c.args.book.now))
