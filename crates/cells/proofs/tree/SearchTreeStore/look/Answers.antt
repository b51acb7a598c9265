-- What is found where the walk ends.
use Rattle.std.proofs.Common.{ℕ, rules, ◌≡◌, Some, sym, ◌∙◌, arith}
use Rattle.std.proofs.lemmas.List.{length-map}
use Rattle.cells.specs.declared.nodes.Stop.TheVariants.{At}
use Rattle.cells.specs.Walks.{pairs_of, links_in, walk_for}
use Rattle.cells.proofs.Meant.{find_in-absent}
use Rattle.cells.proofs.Ending.{at_fits, find_at, absent_since}
use Rattle.cells.proofs.tree.SearchTreeStore.look.Goals as goal

pub value-requires : goal.value-requires
value-requires g c =
    let k = g.met.R.Key in
    let t = c.args.self.now in
    let xs = pairs_of g.R.Record.held t.slots in
    let m = length-map t.slots.records.now (λ n. g.R.Record.held n.record) in
    let l = at_fits g.R.Key.Ord.cmp g.R.Key.PartialEq.eq k.Ord.matches_eq k.Eq.laws.refl k.StoreKey.exact
    xs (links_in t.slots) t.slots.used
    t.grown c.args.key c.in-Some-At.i cc in
    omega arith

pub returns-in-Some-At : goal.returns-in-Some-At
returns-in-Some-At g c =
    let k = g.met.R.Key in
    let t = c.args.self.now in
    let xs = pairs_of g.R.Record.held t.slots in
    let w : walk_for g.R.Key.Ord.cmp xs (links_in t.slots) c.args.key ≡ Some (At c.in-Some-At.i) = cc in
    let f = find_at g.R.Key.Ord.cmp g.R.Key.PartialEq.eq k.Ord.matches_eq k.Eq.laws.refl k.StoreKey.exact
    xs (links_in t.slots) t.slots.used
    t.grown c.args.key c.in-Some-At.i w in
    record { value = c.value.ensures.value ∙ sym f }

pub returns-in-Some-Off : goal.returns-in-Some-Off
returns-in-Some-Off g c =
    let k = g.met.R.Key in
    let t = c.args.self.now in
    let xs = pairs_of g.R.Record.held t.slots in
    let no_slot : (i : ℕ) → c.descend.result ≡ Some (At i) → ⊥ = search rules in
    let a = absent_since g.R.Key.Ord.cmp g.R.Key.PartialEq.eq k.Ord.matches_eq k.Eq.laws.refl k.StoreKey.exact
    xs (links_in t.slots)
    t.slots.used t.grown c.args.key c.descend.result c.descend.ensures.walked no_slot in
    record { value = sym (find_in-absent g.R.Key.PartialEq.eq k.Eq.laws.refl k.StoreKey.exact xs c.args.key a) }
