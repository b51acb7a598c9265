use Rattle.std.proofs.Common.{◌+◌}
use Rattle.order.specs.States.{state_of}
use Rattle.order.proofs.Climbs.Climbing.{Climb}
use Rattle.order.proofs.book.Book.climb.Given as goal

abbrev pub invariant-loop-x : goal.invariant-loop-x
invariant-loop-x l = Climb (state_of l.self).link l.a l.b l.x l.y l.fork

abbrev pub decreases-loop-x : goal.decreases-loop-x
decreases-loop-x l = l.x + l.y
