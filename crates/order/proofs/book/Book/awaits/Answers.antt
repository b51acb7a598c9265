use Rattle.std.proofs.Common.{ap, ◌∙◌, nat_lt}
use Rattle.order.specs.declared.record.TaskRow.{TaskRow}
use Rattle.order.specs.declared.record.FinishRow.{FinishRow}
use Rattle.order.specs.States.{state_of}
use Rattle.order.proofs.Books.Running.{awaits_is}
use Rattle.order.proofs.book.Book.awaits.Goals as goal

pub returns : goal.returns
returns c =
    let st = state_of c.args.self.now in
    record {
      value = ap (λ (f : FinishRow). nat_lt 0 f.alive) c.finish.ensures.value ∙ (ap (λ (k : TaskRow). nat_lt 0 (st.finish k.inner).alive) c.task.ensures.value
          ∙ awaits_is st c.requires.plain c.args.task c.requires.runs);
    }
