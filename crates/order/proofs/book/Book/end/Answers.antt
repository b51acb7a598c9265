use Rattle.order.specs.States.{state_of}
use Rattle.order.proofs.Books.Chains.{end_chain}
use Rattle.order.proofs.book.Book.end.Goals as goal

pub returns-clause-kept : goal.returns-clause-kept
returns-clause-kept c =
    end_chain (state_of c.args.self.now) c.args.task c.task-ended.result c.finish-home.result c.task-ended.ensures.value c.finish-home.ensures.value
    _ _ c.set_task.ensures.set c.set_finish.ensures.set
