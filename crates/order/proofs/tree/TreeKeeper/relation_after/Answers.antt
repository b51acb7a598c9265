use Rattle.std.proofs.Common.{◌∙◌}
use Rattle.order.proofs.Trees.Growing.{grew_plain, grew_sound, grew_order, grew_told}
use Rattle.order.proofs.tree.TreeKeeper.relation_after.Goals as goal

pub invariant_of-self : goal.invariant_of-self
invariant_of-self c =
    let g = c.regrow.ensures.grew in
    record { plain = grew_plain g; sound = grew_sound g; keeps = c.args.self.now.keeps }

pub returns-clause-told : goal.returns-clause-told
returns-clause-told c = c.relation.ensures.told ∙ grew_told c.regrow.ensures.grew c.args.a c.args.b

pub returns-clause-kept : goal.returns-clause-kept
returns-clause-kept c = grew_order c.regrow.ensures.grew
