use Rattle.model.specs.Orders.{done}
use Rattle.order.specs.Calls.{end_fault}
use Rattle.order.specs.States.{state_of}
use Rattle.order.proofs.Keeping.Calls.{OwedBy, ends}
use Rattle.order.proofs.step_keeper.StepKeeperKeeper.end.Given.{Over}
use Rattle.order.proofs.step_keeper.StepKeeperKeeper.end.Goals.{After-try_end}
use Rattle.order.proofs.step_keeper.StepKeeperKeeper.end.Goals as goal

owed : (g : Over) (c : After-try_end g)
    → OwedBy g.P.Planned.Sound g.P.Planned.plan end_fault done (state_of c.args.self.now.book) c.args.task (state_of c.try_end.new.self)
owed g c = ends _ _ c.args.self.now.keeps _ c.args.self.now.sound c.args.task _ c.try_end.ensures.kept

pub invariant_of-self : goal.invariant_of-self
invariant_of-self g c = (owed g (goal.at.invariant_of-self g c).After-try_end).held

pub returns-clause-kept : goal.returns-clause-kept
returns-clause-kept g c = (owed g (goal.at.returns-clause-kept g c).After-try_end).kept
