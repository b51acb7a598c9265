use Rattle.std.proofs.Common.{◌∙◌}
use Rattle.order.specs.States.{state_of}
use Rattle.order.proofs.Keeping.Agree.{both_held}
use Rattle.order.proofs.Graphs.Earlier.{earlier_by}
use Rattle.order.proofs.graph.GraphPlanned.earlier.Goals as goal

pub returns : goal.returns
returns c =
    let st = state_of c.args.book.now in
    let held = both_held st c.args.a c.args.b c.if-not-holds.ensures.value in
    record {
      told = c.is_left.ensures.value ∙ earlier_by st c.requires.sound c.args.a c.args.b held.0 held.1 c.climb.result c.climb.ensures.forked;
    }
