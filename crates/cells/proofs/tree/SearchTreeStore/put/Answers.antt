-- A put by where the walk ends: at a slot, at a side where there is room for a leaf, or neither.
use Rattle.std.proofs.Common.{rules, ◌≡◌, ◌+◌, ℕ, cond, is_some, length, Some, None, sym, ap, ◌∙◌, arith}
use Rattle.std.proofs.lemmas.Bool.{leb-true, leb-false}
use Rattle.std.proofs.lemmas.List.{length-map}
use Rattle.cells.specs.declared.nodes.Stop.TheVariants.{At, Off}
use Rattle.cells.specs.declared.slots.Seek.TheVariants.{Free, Full}
use Rattle.cells.specs.Slots.{used_in, keyed_in, pair_at}
use Rattle.cells.specs.Walks.{pairs_of, links_in, walk_for}
use Rattle.cells.proofs.Meant.{used_in-free, put_answer-sought, keyed_in-laid}
use Rattle.cells.proofs.Walking.{side_used, told_off, some_slot}
use Rattle.cells.proofs.Ending.{at_fits, put_at, counted_at, sought_free, sought_full, sought_none}
use Rattle.cells.proofs.Hanging.{grown_at, grown_off, grown_as}
use Rattle.cells.proofs.tree.SearchTreeStore.put.Goals as goal

pub renew-requires : goal.renew-requires
renew-requires g c =
    let k = g.met.R.Key in
    let t = c.args.self.now in
    let m = length-map t.slots.records.now (λ n. g.R.Record.held n.record) in
    let l = at_fits g.R.Key.Ord.cmp g.R.Key.PartialEq.eq k.Ord.matches_eq k.Eq.laws.refl k.StoreKey.exact
    (pairs_of g.R.Record.held t.slots) (links_in t.slots) t.slots.used t.grown c.args.key c.in-Some-At.i cc in
    record { within = omega arith; filled = t.grown.filled c.in-Some-At.i }

pub invariant_of-self : goal.invariant_of-self
invariant_of-self g c =
    let k = g.met.R.Key in
    let t = c.args.self.now in
    let xs = pairs_of g.R.Record.held t.slots in
    let w : walk_for g.R.Key.Ord.cmp xs (links_in t.slots) c.args.key ≡ Some (At c.in-Some-At.i) = cc in
    let l = at_fits g.R.Key.Ord.cmp g.R.Key.PartialEq.eq k.Ord.matches_eq k.Eq.laws.refl k.StoreKey.exact
    xs (links_in t.slots) t.slots.used t.grown c.args.key c.in-Some-At.i w in
    let n = counted_at xs c.in-Some-At.i (c.args.key, c.args.value) l in
    let h = grown_at g.R.Key.Ord.cmp g.R.Key.PartialEq.eq k.Ord.matches_eq k.Eq.laws.refl k.StoreKey.exact
    xs (links_in t.slots) t.slots.used t.grown c.args.key c.args.value c.in-Some-At.i w in
    record {
      counted =
          c.renew.ensures.used
          ∙ (ap (λ (u : ℕ). cond (is_some (pair_at xs c.in-Some-At.i)) u (u + 1)) t.counted
          ∙ (n ∙ ap used_in (sym c.renew.ensures.laid)));
      grown = grown_as g.R.Key.Ord.cmp c.renew.ensures.laid c.renew.ensures.links c.renew.ensures.used h;
    }

pub grow-requires : goal.grow-requires
grow-requires g c =
    let t = c.args.self.now in
    let xs = pairs_of g.R.Record.held t.slots in
    let w : walk_for g.R.Key.Ord.cmp xs (links_in t.slots) c.args.key ≡ Some (Off c.in-Some-Off.i c.in-Some-Off.side) = cc in
    let l = some_slot g.R.Key.Ord.cmp xs (links_in t.slots) c.args.key _ w in
    let s = told_off g.R.Key.Ord.cmp xs (links_in t.slots) t.slots.used t.grown c.args.key
    c.in-Some-Off.i c.in-Some-Off.side l w in (
      side_used g.R.Key.Ord.cmp xs (links_in t.slots) t.slots.used t.grown c.args.key c.in-Some-Off.i c.in-Some-Off.side s.0,
      leb-false (length t.slots.records.now) t.slots.used (sym c.is_full.ensures.value ∙ c.if-not-is_full.true),
    )

pub invariant_of-self-then-not-is_full : goal.invariant_of-self-then-not-is_full
invariant_of-self-then-not-is_full g c =
    let k = g.met.R.Key in
    let t = c.args.self.now in
    let xs = pairs_of g.R.Record.held t.slots in
    let w : walk_for g.R.Key.Ord.cmp xs (links_in t.slots) c.args.key ≡ Some (Off c.in-Some-Off.i c.in-Some-Off.side) = cc in
    let m = length-map t.slots.records.now (λ n. g.R.Record.held n.record) in
    let r = leb-false (length t.slots.records.now) t.slots.used (sym c.is_full.ensures.value ∙ c.if-not-is_full.true) in
    let f = sought_free g.R.Key.Ord.cmp g.R.Key.PartialEq.eq k.Ord.matches_eq k.Eq.laws.refl k.StoreKey.exact
    xs (links_in t.slots) t.slots.used t.grown c.args.key
    c.in-Some-Off.i c.in-Some-Off.side w (omega arith) in
    let h = grown_off g.R.Key.Ord.cmp g.R.Key.PartialEq.eq k.Ord.matches_eq k.Eq.laws.refl k.StoreKey.exact
    xs (links_in t.slots) t.slots.used t.grown c.args.key c.args.value
    c.in-Some-Off.i c.in-Some-Off.side w (omega arith) (length-map t.slots.records.now (λ n. n.links) ∙ sym m) in
    record {
      counted =
          c.grow.ensures.used
          ∙ (ap (λ (u : ℕ). u + 1) t.counted
          ∙ (sym (used_in-free xs t.slots.used (c.args.key, c.args.value) f.0 f.1) ∙ ap used_in (sym c.grow.ensures.laid)));
      grown = grown_as g.R.Key.Ord.cmp c.grow.ensures.laid c.grow.ensures.links c.grow.ensures.used h;
    }

pub returns-in-Some-Off-2 : goal.returns-in-Some-Off-2
returns-in-Some-Off-2 g c =
    let k = g.met.R.Key in
    let t = c.args.self.now in
    let xs = pairs_of g.R.Record.held t.slots in
    let w : walk_for g.R.Key.Ord.cmp xs (links_in t.slots) c.args.key ≡ Some (Off c.in-Some-Off.i c.in-Some-Off.side) = cc in
    let m = length-map t.slots.records.now (λ n. g.R.Record.held n.record) in
    let r = leb-true (length t.slots.records.now) t.slots.used (sym c.is_full.ensures.value ∙ c.if-not-is_full.false) in
    let s = sought_full g.R.Key.Ord.cmp g.R.Key.PartialEq.eq k.Ord.matches_eq k.Eq.laws.refl k.StoreKey.exact
    xs (links_in t.slots) t.slots.used t.grown c.args.key c.in-Some-Off.i c.in-Some-Off.side w (omega arith) t.counted in
    record {
      answered = sym (put_answer-sought g.R.Key.PartialEq.eq k.Eq.laws.refl k.StoreKey.exact xs c.args.key Full s);
      kept = keyed_in-laid g.R.Key.PartialEq.eq k.Eq.laws.refl k.StoreKey.exact xs c.args.key c.args.value Full s;
    }

pub returns-in-Some-Off-2-2 : goal.returns-in-Some-Off-2-2
returns-in-Some-Off-2-2 g c =
    let k = g.met.R.Key in
    let t = c.args.self.now in
    let xs = pairs_of g.R.Record.held t.slots in
    let w : walk_for g.R.Key.Ord.cmp xs (links_in t.slots) c.args.key ≡ None = search rules in
    let s = sought_none g.R.Key.Ord.cmp g.R.Key.PartialEq.eq k.Ord.matches_eq k.Eq.laws.refl k.StoreKey.exact
    xs (links_in t.slots) t.slots.used t.grown c.args.key w in
    record {
      answered = sym (put_answer-sought g.R.Key.PartialEq.eq k.Eq.laws.refl k.StoreKey.exact xs c.args.key Full s);
      kept = keyed_in-laid g.R.Key.PartialEq.eq k.Eq.laws.refl k.StoreKey.exact xs c.args.key c.args.value Full s;
    }

pub returns-in-Some-At : goal.returns-in-Some-At
returns-in-Some-At g c =
    let k = g.met.R.Key in
    let t = c.args.self.now in
    let xs = pairs_of g.R.Record.held t.slots in
    let w : walk_for g.R.Key.Ord.cmp xs (links_in t.slots) c.args.key ≡ Some (At c.in-Some-At.i) = cc in
    let s = put_at g.R.Key.Ord.cmp g.R.Key.PartialEq.eq k.Ord.matches_eq k.Eq.laws.refl k.StoreKey.exact
    xs (links_in t.slots) t.slots.used t.grown c.args.key c.in-Some-At.i c.args.value w in
    record { answered = sym s.0; kept = ap (keyed_in g.R.Key.PartialEq.eq) c.renew.ensures.laid ∙ s.1 }

pub returns-in-Some-Off : goal.returns-in-Some-Off
returns-in-Some-Off g c =
    let k = g.met.R.Key in
    let t = c.args.self.now in
    let xs = pairs_of g.R.Record.held t.slots in
    let w : walk_for g.R.Key.Ord.cmp xs (links_in t.slots) c.args.key ≡ Some (Off c.in-Some-Off.i c.in-Some-Off.side) = cc in
    let m = length-map t.slots.records.now (λ n. g.R.Record.held n.record) in
    let r = leb-false (length t.slots.records.now) t.slots.used (sym c.is_full.ensures.value ∙ c.if-not-is_full.true) in
    let s = sought_free g.R.Key.Ord.cmp g.R.Key.PartialEq.eq k.Ord.matches_eq k.Eq.laws.refl k.StoreKey.exact
    xs (links_in t.slots) t.slots.used t.grown c.args.key c.in-Some-Off.i c.in-Some-Off.side w (omega arith) in
    record {
      answered = sym (put_answer-sought g.R.Key.PartialEq.eq k.Eq.laws.refl k.StoreKey.exact xs c.args.key (Free t.slots.used) s);
      kept =
          ap (keyed_in g.R.Key.PartialEq.eq) c.grow.ensures.laid
          ∙ keyed_in-laid g.R.Key.PartialEq.eq k.Eq.laws.refl k.StoreKey.exact xs c.args.key c.args.value (Free t.slots.used) s;
    }
