use Rattle.order.specs.States.{state_of}
use Rattle.order.proofs.Books.Ending.{ends_alive}
use Rattle.order.proofs.Keeping.Calls.{passed}
use Rattle.order.proofs.book.Book.try_end.Goals as goal

pub end-requires-clause-alive : goal.end-requires-clause-alive
end-requires-clause-alive c =
    ends_alive (state_of c.args.self.now) c.requires c.args.task (passed _ c.check_end.result tt _ c.check_end.ensures.answered c.in_ok-check_end.was)
