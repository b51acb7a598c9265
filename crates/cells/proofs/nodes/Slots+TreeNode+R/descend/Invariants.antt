-- The rest of the walk is the walk from the slot.
use Rattle.std.proofs.Common.{◌≡◌, ◌<◌, length, ◌-◌}
use Rattle.cells.specs.Walks.{links_in, pairs_of, walk, walk_for}
use Rattle.cells.proofs.nodes.Slots+TreeNode+R.descend.Given as goal

abbrev pub invariant-loop-side : goal.invariant-loop-side
invariant-loop-side g l =
    let xs = pairs_of g.R.Record.held l.self in
    (l.i < length xs)
    × (walk_for g.R.Key.Ord.cmp xs (links_in l.self) l.key ≡ walk g.R.Key.Ord.cmp xs (links_in l.self) (length xs) l.key l.i)

abbrev pub decreases-loop-side : goal.decreases-loop-side
decreases-loop-side g l = length l.self.records.now - l.i
