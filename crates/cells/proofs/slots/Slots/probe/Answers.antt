-- A search stops at the slot that it has come to, or it has passed all slots.
use Rattle.std.proofs.Common.{sym, ◌∙◌, length}
use Rattle.std.proofs.lemmas.List.{length-map}
use Rattle.cells.specs.Slots.{pairs_in}
use Rattle.cells.proofs.Probing.{sought_met, sought_full}
use Rattle.cells.proofs.slots.Slots.probe.Goals as goal

pub returns-in-Some : goal.returns-in-Some
returns-in-Some g c =
    let k = g.R.Key in
    let m = g.met.R.Key in
    let s = c.args.self.now in
    let size = sym (length-map s.records.now g.R.Record.held) in
    let r = sought_met k.PartialEq.eq m.Eq.laws.refl m.StoreKey.exact k.StoreKey.hashed m.StoreKey.small
    (pairs_in g.R.Record.held s) c.requires c.args.key
    (length s.records.now) c.hash.result c.home-first.result c.loop-d.d size c.hash.ensures.value c.home-first.ensures.value
    c.loop-d.invariant c.visit-i.result c.loop-d-test.true c.visit-i.ensures.value
    c.in-Some.seek (sym c.meet.ensures.value ∙ c.in-Some.is) in
    record { sought = r.0; free = r.1 }

pub returns-clause-sought : goal.returns-clause-sought
returns-clause-sought g c =
    let k = g.R.Key in
    let m = g.met.R.Key in
    let s = c.args.self.now in
    let size = sym (length-map s.records.now g.R.Record.held) in
    sought_full k.PartialEq.eq m.Eq.laws.refl m.StoreKey.exact k.StoreKey.hashed m.StoreKey.small
    (pairs_in g.R.Record.held s) c.requires c.args.key
    (length s.records.now) c.hash.result c.home-first.result c.loop-d.d size c.hash.ensures.value c.home-first.ensures.value
    c.loop-d.invariant c.loop-d-test.false
