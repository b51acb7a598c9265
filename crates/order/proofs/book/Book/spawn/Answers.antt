use Rattle.std.proofs.Common.{arith, ap}
use Rattle.order.specs.declared.record.TaskRow.{TaskRow}
use Rattle.order.specs.declared.record.FinishRow.{FinishRow}
use Rattle.order.specs.States.{state_of}
use Rattle.order.proofs.Books.Chains.{spawn_chain}
use Rattle.order.proofs.Books.Counts.{alive_le}
use Rattle.order.proofs.book.Book.spawn.Goals as goal

pub returns-clause-kept : goal.returns-clause-kept
returns-clause-kept c =
    spawn_chain (state_of c.args.self.now) c.args.task c.task-spawner.result c.finish-home.result c.task-spawner.ensures.value c.finish-home.ensures.value
    c.args.child c.args.next _ _ _ _ _
    c.seat.ensures.seated c.seat-2.ensures.seated c.set_task.ensures.set c.set_task-2.ensures.set c.set_finish.ensures.set

pub overflow_add-home : goal.overflow_add-home
overflow_add-home c =
    let st = state_of c.args.self.now in
    let p = c.requires.plain in
    let k = ap (λ (k : TaskRow). (st.finish k.inner).alive) c.task-spawner.ensures.value in
    let f = ap (λ (f : FinishRow). f.alive) c.finish-home.ensures.value in
    omega (arith, k, f, alive_le st p (st.task c.args.task).inner (p.inner_held c.args.task c.requires.held), p.tasks_fit, p.steps_fit, p.limit_fits)
