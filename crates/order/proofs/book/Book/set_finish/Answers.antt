use Rattle.order.proofs.Books.Writes.{finish_written}
use Rattle.order.proofs.book.Book.set_finish.Goals as goal

pub returns : goal.returns
returns c = record { set = finish_written _ _ _ _ _ _ _ c.set.ensures.limit c.args.f c.args.finish c.set.ensures.set }
