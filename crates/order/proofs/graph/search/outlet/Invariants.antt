use Rattle.std.proofs.Common.{◌-◌, ◌≡◌, ◌<◌}
use Rattle.order.specs.States.{state_of}
use Rattle.order.specs.Graphs.{ways_in}
use Rattle.edges.specs.Ways.{outlet}
use Rattle.order.proofs.graph.search.outlet.Given as goal

-- the search from a on goes by y, and the finish around y was closed by `next`
abbrev pub invariant-loop-y : goal.invariant-loop-y
invariant-loop-y l =
    let w = ways_in (state_of l.book) in
    (l.y < (state_of l.book).steps) × (l.next ≡ w.shut (w.home l.y)) × (outlet w l.b l.b l.a ≡ outlet w (l.b - l.y) l.b l.y)

abbrev pub decreases-loop-y : goal.decreases-loop-y
decreases-loop-y l = l.b - l.y
