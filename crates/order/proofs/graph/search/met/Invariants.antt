use Rattle.std.proofs.Common.{◌≡◌, ◌<◌}
use Rattle.order.specs.States.{state_of}
use Rattle.order.specs.Graphs.{ways_in}
use Rattle.edges.specs.Ways.{met}
use Rattle.order.proofs.graph.search.met.Given as goal

-- x is on the way back from b, and the search goes on there
abbrev pub invariant-loop-x : goal.invariant-loop-x
invariant-loop-x l =
    let w = ways_in (state_of l.book) in (l.x < (state_of l.book).steps) × (met w l.b l.y l.b ≡ met w l.x l.y l.x)

abbrev pub decreases-loop-x : goal.decreases-loop-x
decreases-loop-x l = l.x
