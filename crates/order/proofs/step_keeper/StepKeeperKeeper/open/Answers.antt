use Rattle.model.specs.Orders.{opened}
use Rattle.order.specs.Calls.{open_fault}
use Rattle.order.specs.States.{state_of}
use Rattle.order.proofs.Keeping.Calls.{OwedBy, opens}
use Rattle.order.proofs.step_keeper.StepKeeperKeeper.open.Given.{Over}
use Rattle.order.proofs.step_keeper.StepKeeperKeeper.open.Goals.{After-try_open}
use Rattle.order.proofs.step_keeper.StepKeeperKeeper.open.Goals as goal

owed : (g : Over) (c : After-try_open g)
    → OwedBy g.P.Planned.Sound g.P.Planned.plan open_fault opened (state_of c.args.self.now.book) c.args.task (state_of c.try_open.new.self)
owed g c = opens _ _ c.args.self.now.keeps _ c.args.self.now.sound c.args.task _ c.try_open.ensures.kept

pub invariant_of-self : goal.invariant_of-self
invariant_of-self g c = (owed g (goal.at.invariant_of-self g c).After-try_open).held

pub returns-clause-kept : goal.returns-clause-kept
returns-clause-kept g c = (owed g (goal.at.returns-clause-kept g c).After-try_open).kept
