use Rattle.order.specs.States.{state_of}
use Rattle.order.proofs.Books.Chains.{close_chain}
use Rattle.order.proofs.book.Book.close.Goals as goal

pub returns-clause-kept : goal.returns-clause-kept
returns-clause-kept c =
    close_chain (state_of c.args.self.now) c.args.task c.task-closer.result c.finish-finish.result c.task-closer.ensures.value c.finish-finish.ensures.value
    c.args.next _ _ _ c.seat.ensures.seated c.set_task.ensures.set c.set_finish.ensures.set
