use Rattle.std.proofs.Common.{refl}
use Rattle.order.specs.States.{state_of}
use Rattle.order.proofs.Books.Chains.{open_chain}
use Rattle.order.proofs.book.Book.open.Goals as goal

pub returns-clause-kept : goal.returns-clause-kept
returns-clause-kept c =
    let k = c.task-opener.result in
    open_chain (state_of c.args.self.now) c.args.task k ((state_of c.args.self.now).finish k.inner) c.task-opener.ensures.value refl
    c.args.next _ _ _ c.seat.ensures.seated c.set_task.ensures.set c.set_finish.ensures.set
