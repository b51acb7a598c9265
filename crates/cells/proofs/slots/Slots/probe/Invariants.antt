-- The slots before the next one are used by other keys.
use Rattle.cells.specs.Slots.{pairs_in}
use Rattle.cells.specs.Probes.{Passed}
use Rattle.cells.proofs.slots.Slots.probe.Given as goal

abbrev pub invariant-loop-d : goal.invariant-loop-d
invariant-loop-d g l = Passed g.R.Key.PartialEq.eq l.key (pairs_in g.R.Record.held l.self) l.first l.d
