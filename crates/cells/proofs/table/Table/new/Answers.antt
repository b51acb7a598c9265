-- Blank slots are a table that holds nothing.
use Rattle.std.proofs.Common.{sym, ap, ◌∙◌, length}
use Rattle.cells.specs.Slots.{pairs_in, used_in, keyed_in}
use Rattle.cells.proofs.Meant.{pairs-blank, used_in-blank, keyed_in-blank}
use Rattle.cells.proofs.Probing.{probed-blank}
use Rattle.cells.proofs.table.Table.new.Goals as goal

pub invariant_of-result : goal.invariant_of-result
invariant_of-result g c =
    let k = g.R.Key in
    let n = length c.args.records.now in
    let blank = pairs-blank g.R.Record.held g.R.Record.BLANK g.met.R.Record.blank n c.over.result.records.now c.over.ensures.blank in
    record {
      counted = c.over.ensures.unused ∙ sym (ap used_in blank ∙ used_in-blank _ n);
      probed = probed-blank k.PartialEq.eq k.StoreKey.hashed n (pairs_in g.R.Record.held c.over.result) blank;
    }

pub returns : goal.returns
returns g c =
    let same = g.R.Key.PartialEq.eq in
    let n = length c.args.records.now in
    let blank = pairs-blank g.R.Record.held g.R.Record.BLANK g.met.R.Record.blank n c.over.result.records.now c.over.ensures.blank in
    record { emptied = ap (keyed_in same) blank ∙ keyed_in-blank same n }
