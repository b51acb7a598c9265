use Rattle.order.proofs.Books.Writes.{task_written}
use Rattle.order.proofs.book.Book.set_task.Goals as goal

pub returns : goal.returns
returns c = record { set = task_written _ _ _ _ _ _ _ c.set.ensures.limit c.args.t c.args.task c.set.ensures.set }
