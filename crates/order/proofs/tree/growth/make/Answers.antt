use Rattle.std.proofs.Common.{sym, ap, ◌∙◌}
use Rattle.order.specs.States.{state_of}
use Rattle.order.specs.Grown.{book_after_call}
use Rattle.order.proofs.tree.growth.make.Goals as goal

pub returns-in-Spawn : goal.returns-in-Spawn
returns-in-Spawn c = record { kept = c.try_spawn.ensures.kept ∙ ap (book_after_call (state_of c.args.book.now)) (sym c.in-Spawn.is) }

pub returns-in-Open : goal.returns-in-Open
returns-in-Open c = record { kept = c.try_open.ensures.kept ∙ ap (book_after_call (state_of c.args.book.now)) (sym c.in-Open.is) }

pub returns-in-Close : goal.returns-in-Close
returns-in-Close c = record { kept = c.try_close.ensures.kept ∙ ap (book_after_call (state_of c.args.book.now)) (sym c.in-Close.is) }

pub returns-in-End : goal.returns-in-End
returns-in-End c = record { kept = c.try_end.ensures.kept ∙ ap (book_after_call (state_of c.args.book.now)) (sym c.in-End.is) }
