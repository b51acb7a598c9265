-- Blank slots are a search tree that holds nothing.
use Rattle.std.proofs.Common.{length, refl, sym, ap, ◌∙◌}
use Rattle.std.proofs.lemmas.List.{length-map}
use Rattle.model.specs.Parts.{none_held}
use Rattle.cells.proofs.Hanging.{counted_blank, grown_blank, keyed_blank}
use Rattle.cells.proofs.tree.SearchTreeStore.empty.Goals as goal

pub invariant_of-self : goal.invariant_of-self
invariant_of-self g c =
    let n = length c.args.self.now.slots.records.now in
    let s = c.clear.new.self in
    record {
      counted = counted_blank g.R.Record.held _ g.met.R.Record.blank refl n s.records.now c.clear.ensures.blank s.used c.clear.ensures.unused;
      grown =
          grown_blank g.R.Record.held _ g.met.R.Record.blank refl n s.records.now c.clear.ensures.blank
          g.R.Key.Ord.cmp s.used c.clear.ensures.unused;
    }

pub returns : goal.returns
returns g c =
    let ns = c.args.self.now.slots.records.now in
    record {
      kept =
          keyed_blank g.R.Record.held _ g.met.R.Record.blank refl (length ns) c.clear.new.self.records.now c.clear.ensures.blank
          g.R.Key.PartialEq.eq
          ∙ ap none_held (sym (length-map ns (λ n. g.R.Record.held n.record)));
    }
