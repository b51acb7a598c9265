-- The walk so far is the beginning of the whole walk.
use Rattle.std.proofs.Common.{◌≡◌, ◌<◌, ℕ, List, length, map, get_or, refl, sym, ap, ◌∙◌, arith}
use Rattle.std.proofs.lemmas.Bool.{eqb-false}
use Rattle.std.proofs.lemmas.List.{length-map, get_or-map}
use Rattle.cells.specs.declared.node.Side.{Side}
use Rattle.cells.specs.declared.node.TreeNode.{TreeNode}
use Rattle.cells.specs.Walks.{links_in, pairs_of, link_to, link_at}
use Rattle.cells.specs.Records.{no_links}
use Rattle.cells.proofs.Walking.{on_at, on_off, on_on}
use Rattle.cells.proofs.nodes.Slots+TreeNode+R.descend.Goals as goal

-- a node's link, as it is read
link_read : {R : Type 0} (ns : List (TreeNode R)) (i : ℕ) (d : TreeNode R) (s : Side) → i < length ns
    → link_to s (get_or ns i d).links ≡ link_at (map (λ n. n.links) ns) i s
link_read ns i d s l = ap (link_to s) (sym (get_or-map (λ n. n.links) ns i d no_links l))

pub loop-side-init : goal.loop-side-init
loop-side-init g c =
    let m = length-map c.args.self.now.records.now (λ n. g.R.Record.held n.record) in
    let d = eqb-false (length c.args.self.now.records.now) 0 (sym c.is_empty.ensures ∙ c.if-is_empty.false) in
    (omega arith, refl)

pub side-requires : goal.side-requires
side-requires g c =
    let m = length-map c.args.self.now.records.now (λ n. g.R.Record.held n.record) in
    let i = c.loop-side.invariant.0 in
    omega arith

pub returns-then-next-eq0 : goal.returns-then-next-eq0
returns-then-next-eq0 g c =
    let xs = pairs_of g.R.Record.held c.args.self.now in
    let ns = c.args.self.now.records.now in
    let m = length-map ns (λ n. g.R.Record.held n.record) in
    let i = c.loop-side.invariant.0 in
    let e = sym c.to-next.ensures.value ∙ c.if-next-eq0.true in
    let z = sym (link_read ns c.loop-side.i c.index-self-i.result c.in-Some.side (omega arith)) ∙ e in
    record {
      walked = sym (c.loop-side.invariant.1
          ∙ on_off g.R.Key.Ord.cmp xs (links_in c.args.self.now) c.args.self.now.used c.requires c.args.key
          c.loop-side.i c.in-Some.side
          i (sym c.side.ensures.value ∙ c.in-Some.is) z);
    }

pub loop-side-smaller : goal.loop-side-smaller
loop-side-smaller g c =
    let xs = pairs_of g.R.Record.held c.args.self.now in
    let ns = c.args.self.now.records.now in
    let m = length-map ns (λ n. g.R.Record.held n.record) in
    let i = c.loop-side.invariant.0 in
    let e = link_read ns c.loop-side.i c.index-self-i.result c.in-Some.side (omega arith) in
    let r = on_on g.R.Key.Ord.cmp xs (links_in c.args.self.now) c.args.self.now.used c.requires c.args.key
    c.loop-side.i c.in-Some.side
    i (sym c.side.ensures.value ∙ c.in-Some.is) (omega arith) in
    let r0 = r.0 in
    let r1 = r.1 in
    omega arith

pub loop-side-preserved : goal.loop-side-preserved
loop-side-preserved g c =
    let xs = pairs_of g.R.Record.held c.args.self.now in
    let ns = c.args.self.now.records.now in
    let m = length-map ns (λ n. g.R.Record.held n.record) in
    let i = c.loop-side.invariant.0 in
    let e = c.to-next.ensures.value ∙ link_read ns c.loop-side.i c.index-self-i.result c.in-Some.side (omega arith) in
    let r = on_on g.R.Key.Ord.cmp xs (links_in c.args.self.now) c.args.self.now.used c.requires c.args.key
    c.loop-side.i c.in-Some.side
    i (sym c.side.ensures.value ∙ c.in-Some.is) (omega arith) in
    (rw e r.1, c.loop-side.invariant.1 ∙ rw e r.2)

pub returns : goal.returns
returns g c = record {
  walked = sym (c.loop-side.invariant.1
      ∙ on_at g.R.Key.Ord.cmp (pairs_of g.R.Record.held c.args.self.now) (links_in c.args.self.now)
      c.args.self.now.used c.requires
      c.args.key c.loop-side.i c.loop-side.invariant.0 (sym c.side.ensures.value ∙ c.in_default.is));
}
