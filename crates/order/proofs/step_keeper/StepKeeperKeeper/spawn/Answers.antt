use Rattle.model.specs.Orders.{spawned}
use Rattle.order.specs.Calls.{spawn_fault}
use Rattle.order.specs.States.{state_of}
use Rattle.order.proofs.Keeping.Calls.{OwedBy, spawns}
use Rattle.order.proofs.step_keeper.StepKeeperKeeper.spawn.Given.{Over}
use Rattle.order.proofs.step_keeper.StepKeeperKeeper.spawn.Goals.{After-try_spawn}
use Rattle.order.proofs.step_keeper.StepKeeperKeeper.spawn.Goals as goal

owed : (g : Over) (c : After-try_spawn g)
    → OwedBy g.P.Planned.Sound g.P.Planned.plan spawn_fault spawned (state_of c.args.self.now.book) c.args.task (state_of c.try_spawn.new.self)
owed g c = spawns _ _ c.args.self.now.keeps _ c.args.self.now.sound c.args.task _ c.try_spawn.ensures.kept

pub invariant_of-self : goal.invariant_of-self
invariant_of-self g c = (owed g (goal.at.invariant_of-self g c).After-try_spawn).held

pub returns-clause-kept : goal.returns-clause-kept
returns-clause-kept g c = (owed g (goal.at.returns-clause-kept g c).After-try_spawn).kept
