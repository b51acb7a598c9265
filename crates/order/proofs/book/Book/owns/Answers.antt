use Rattle.std.proofs.Common.{ap, ◌∙◌, nat_lt}
use Rattle.order.specs.declared.record.TaskRow.{TaskRow}
use Rattle.order.specs.States.{state_of}
use Rattle.order.proofs.Books.Running.{owns_is}
use Rattle.order.proofs.book.Book.owns.Goals as goal

pub returns : goal.returns
returns c = record { value = ap (λ (k : TaskRow). nat_lt 0 k.own) c.task.ensures.value ∙ owns_is (state_of c.args.self.now) c.args.task c.requires.runs }
