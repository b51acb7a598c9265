-- A key that is laid where the search for it came to can be found again.
use Rattle.cells.specs.Slots.{pairs_in}
use Rattle.cells.proofs.Probing.{probed-laid}
use Rattle.cells.proofs.table.TableStore.put.Goals as goal

pub invariant_of-self : goal.invariant_of-self
invariant_of-self g c =
    let k = g.R.Key in
    let m = g.met.R.Key in
    let t = c.args.self.now in
    record {
      counted = c.lay.ensures.counted;
      probed = probed-laid k.PartialEq.eq m.Eq.laws.refl m.StoreKey.exact k.StoreKey.hashed m.StoreKey.small
          (pairs_in g.R.Record.held t.slots) t.probed c.args.key c.args.value c.probe-seek.result
          (pairs_in g.R.Record.held c.lay.new.self) c.lay.ensures.laid c.probe-seek.ensures.sought c.probe-seek.ensures.free;
    }
