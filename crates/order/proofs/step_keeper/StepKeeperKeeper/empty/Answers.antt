use Rattle.std.proofs.Common.{arith}
use Rattle.model.specs.Orders.{emptied}
use Rattle.order.specs.States.{state_of}
use Rattle.order.proofs.Keeping.Calls.{Owed, clears}
use Rattle.order.proofs.step_keeper.StepKeeperKeeper.empty.Given.{Over}
use Rattle.order.proofs.step_keeper.StepKeeperKeeper.empty.Goals.{After-clear}
use Rattle.order.proofs.step_keeper.StepKeeperKeeper.empty.Goals as goal

owed : (g : Over) (c : After-clear g) → Owed g.P.Planned.Sound g.P.Planned.plan (state_of c.clear.new.self) (emptied (state_of c.args.self.now.book).limit)
owed g c = clears g.P.Planned.Sound g.P.Planned.plan c.args.self.now.keeps _ _ c.clear.ensures.cleared (omega arith) c.args.self.now.plain.limit_fits

pub invariant_of-self : goal.invariant_of-self
invariant_of-self g c = (owed g (goal.at.invariant_of-self g c).After-clear).held

pub returns : goal.returns
returns g c = record { kept = (owed g (goal.at.returns g c).After-clear).kept }
