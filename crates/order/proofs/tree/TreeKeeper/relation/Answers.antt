use Rattle.order.specs.States.{state_of}
use Rattle.order.proofs.Trees.Relation.{labelled_by, grown_by}
use Rattle.order.proofs.tree.TreeKeeper.relation.Goals as goal

pub returns-clause-labelled : goal.returns-clause-labelled
returns-clause-labelled c = labelled_by (state_of c.args.self.now.book) c.args.self.now.sound

pub returns-clause-grown : goal.returns-clause-grown
returns-clause-grown c = grown_by (state_of c.args.self.now.book) c.args.self.now.sound
