use Rattle.model.specs.Orders.{closed}
use Rattle.order.specs.Calls.{close_fault}
use Rattle.order.specs.States.{state_of}
use Rattle.order.proofs.Keeping.Calls.{OwedBy, closes}
use Rattle.order.proofs.step_keeper.StepKeeperKeeper.close.Given.{Over}
use Rattle.order.proofs.step_keeper.StepKeeperKeeper.close.Goals.{After-try_close}
use Rattle.order.proofs.step_keeper.StepKeeperKeeper.close.Goals as goal

owed : (g : Over) (c : After-try_close g)
    → OwedBy g.P.Planned.Sound g.P.Planned.plan close_fault closed (state_of c.args.self.now.book) c.args.task (state_of c.try_close.new.self)
owed g c = closes _ _ c.args.self.now.keeps _ c.args.self.now.sound c.args.task _ c.try_close.ensures.kept

pub invariant_of-self : goal.invariant_of-self
invariant_of-self g c = (owed g (goal.at.invariant_of-self g c).After-try_close).held

pub returns-clause-kept : goal.returns-clause-kept
returns-clause-kept g c = (owed g (goal.at.returns-clause-kept g c).After-try_close).kept
