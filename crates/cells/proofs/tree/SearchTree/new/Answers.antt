-- Blank slots are a search tree that holds nothing.
use Rattle.std.proofs.Common.{length, refl}
use Rattle.cells.proofs.Hanging.{counted_blank, grown_blank, keyed_blank}
use Rattle.cells.proofs.tree.SearchTree.new.Goals as goal

pub invariant_of-result : goal.invariant_of-result
invariant_of-result g c =
    let n = length c.args.nodes.now in
    let s = c.over.result in
    record {
      counted = counted_blank g.R.Record.held _ g.met.R.Record.blank refl n s.records.now c.over.ensures.blank s.used c.over.ensures.unused;
      grown =
          grown_blank g.R.Record.held _ g.met.R.Record.blank refl n s.records.now c.over.ensures.blank
          g.R.Key.Ord.cmp s.used c.over.ensures.unused;
    }

pub returns : goal.returns
returns g c = record {
  emptied =
      keyed_blank g.R.Record.held _ g.met.R.Record.blank refl (length c.args.nodes.now) c.over.result.records.now
      c.over.ensures.blank g.R.Key.PartialEq.eq;
}
