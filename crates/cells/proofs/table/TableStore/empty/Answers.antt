-- Slots that are made blank are a table that holds nothing, of as many slots as it had.
use Rattle.std.proofs.Common.{sym, ap, ◌∙◌, length}
use Rattle.std.proofs.lemmas.List.{length-map}
use Rattle.model.specs.Parts.{none_held}
use Rattle.cells.specs.Slots.{pairs_in, used_in, keyed_in}
use Rattle.cells.proofs.Meant.{pairs-blank, used_in-blank, keyed_in-blank}
use Rattle.cells.proofs.Probing.{probed-blank}
use Rattle.cells.proofs.table.TableStore.empty.Goals as goal

pub invariant_of-self : goal.invariant_of-self
invariant_of-self g c =
    let k = g.R.Key in
    let n = length c.args.self.now.slots.records.now in
    let blank = pairs-blank g.R.Record.held g.R.Record.BLANK g.met.R.Record.blank n c.clear.new.self.records.now c.clear.ensures.blank in
    record {
      counted = c.clear.ensures.unused ∙ sym (ap used_in blank ∙ used_in-blank _ n);
      probed = probed-blank k.PartialEq.eq k.StoreKey.hashed n (pairs_in g.R.Record.held c.clear.new.self) blank;
    }

pub returns : goal.returns
returns g c =
    let same = g.R.Key.PartialEq.eq in
    let records = c.args.self.now.slots.records.now in
    let size = sym (length-map records g.R.Record.held) in
    let n = length records in
    let blank = pairs-blank g.R.Record.held g.R.Record.BLANK g.met.R.Record.blank n c.clear.new.self.records.now c.clear.ensures.blank in
    record { kept = ap (keyed_in same) blank ∙ (keyed_in-blank same n ∙ ap none_held size) }
