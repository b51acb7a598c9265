use Rattle.std.proofs.Common.{take}
use Rattle.order.specs.States.{state_of}
use Rattle.order.specs.Grown.{GrewBy}
use Rattle.order.proofs.tree.growth.regrow.Given as goal

-- the book is where the calls that are made lead to
abbrev pub invariant-loop-call : goal.invariant-loop-call
invariant-loop-call l = GrewBy (state_of l.book) (state_of l.fn.book).limit (take l.call-index l.calls)
