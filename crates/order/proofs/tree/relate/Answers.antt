use Rattle.order.specs.States.{state_of}
use Rattle.order.proofs.Keeping.Agree.{both_held}
use Rattle.order.proofs.Trees.Relation.{told_by}
use Rattle.order.proofs.tree.relate.Goals as goal

pub returns : goal.returns
returns c =
    let st = state_of c.args.book.now in
    let held = both_held st c.args.a c.args.b c.if-not-holds.ensures.value in
    record {
      told = told_by st c.requires.sound c.args.a c.args.b held.0 held.1 c.climb-fork.result c.climb-fork.ensures.forked c.is_over.result c.is_left.result c.is_over.ensures.value c.is_left.ensures.value;
    }
