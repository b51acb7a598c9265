use Rattle.order.proofs.Books.Writes.{link_written}
use Rattle.order.proofs.book.Book.hang.Goals as goal

pub returns : goal.returns
returns c = record { hung = link_written _ _ _ _ _ _ _ c.set.ensures.limit c.args.p c.args.link c.set.ensures.set }
