use Rattle.std.proofs.Common.{◌+◌, ◌/◌, length, arith}
use Rattle.model.specs.Orders.{emptied}
use Rattle.order.specs.States.{state_of}
use Rattle.order.proofs.Keeping.Calls.{Owed, clears}
use Rattle.order.proofs.step_keeper.StepKeeper.over.Given.{Over}
use Rattle.order.proofs.step_keeper.StepKeeper.over.Goals.{After-new}
use Rattle.order.proofs.step_keeper.StepKeeper.over.Goals as goal

owed : (g : Over) (c : After-new g) → Owed g.P.Planned.Sound g.P.Planned.plan (state_of c.new.result) (emptied (1 + length c.args.records.now / 4))
owed g c =
    let e = c.new.ensures in
    clears g.P.Planned.Sound g.P.Planned.plan c.requires _ _ e.cleared (omega arith) (omega (arith, e.small, e.cleared.limit_is))

pub invariant_of-result : goal.invariant_of-result
invariant_of-result g c = (owed g (goal.at.invariant_of-result g c).After-new).held

pub returns : goal.returns
returns g c = record { emptied = (owed g (goal.at.returns g c).After-new).kept }
