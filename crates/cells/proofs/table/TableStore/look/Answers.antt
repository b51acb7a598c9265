-- What the search came to is what slots mean.
use Rattle.std.proofs.Common.{◌∙◌, sym, arith}
use Rattle.std.proofs.lemmas.List.{length-map}
use Rattle.cells.proofs.Meant.{find_in-only, find_in-none}
use Rattle.cells.proofs.table.TableStore.look.Goals as goal

pub value-requires : goal.value-requires
value-requires g c =
    let n = length-map c.args.self.now.slots.records.now g.R.Record.held in
    let s = c.in-Found.ensures.sought in
    omega (arith, n, s.0)

pub returns-in-Found : goal.returns-in-Found
returns-in-Found g c =
    let s = c.in-Found.ensures.sought in
    record {
      value =
          c.value.ensures.value
          ∙ sym (find_in-only g.R.Key.PartialEq.eq g.met.R.Key.Eq.laws.refl g.met.R.Key.StoreKey.exact _ c.args.key c.in-Found.i s.0 s.1);
    }

pub returns-in-Free : goal.returns-in-Free
returns-in-Free g c =
    record {
      value =
          sym (find_in-none g.R.Key.PartialEq.eq g.met.R.Key.Eq.laws.refl g.met.R.Key.StoreKey.exact _ c.args.key c.probe.result c.probe.ensures.sought c.in-Free.is);
    }
