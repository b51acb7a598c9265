-- One record more is set, and one link.
use Rattle.std.proofs.Common.{◌≡◌, ◌<◌, Some, Option, List, length, map, set, get_or, ℕ, refl, sym, ap, ◌∙◌, arith}
use Rattle.std.proofs.lemmas.List.{map-set, get_or-map, get_or-set_other}
use Rattle.std.proofs.Math.Seq.{map-set_same}
use Rattle.cells.specs.declared.node.Side.{Side}
use Rattle.cells.specs.declared.node.TreeNode.{TreeNode}
use Rattle.cells.specs.Records.{no_links}
use Rattle.cells.specs.Walks.{with_link, hung}
use Rattle.cells.proofs.Meant.{held_new}
use Rattle.cells.proofs.nodes.Slots+TreeNode+R.grow.Goals as goal

pairs_more : {R P : Type 0} (held : R → Option P) (ns : List (TreeNode R)) (u i : ℕ) (n m d : TreeNode R) (p : P)
    → held n.record ≡ Some p → m.record ≡ (get_or (set ns u n) i d).record
    → map (λ n. held n.record) (set (set ns u n) i m) ≡ set (map (λ n. held n.record) ns) u (Some p)
pairs_more held ns u i n m d p h e =
    map-set_same (λ n. held n.record) (set ns u n) i m d (ap held e)
    ∙ (map-set (λ n. held n.record) ns u n ∙ ap (set (map (λ n. held n.record) ns) u) h)

links_more : {R : Type 0} (ns : List (TreeNode R)) (u i : ℕ) (t : Side) (n m d : TreeNode R) → i < u → u < length ns
    → n.links ≡ no_links → m.links ≡ with_link t u (get_or (set ns u n) i d).links
    → map (λ n. n.links) (set (set ns u n) i m) ≡ hung (map (λ n. n.links) ns) u i t
links_more ns u i t n m d l k h e =
    map-set (λ n. n.links) (set ns u n) i m
    ∙ (ap (λ ls. set ls i m.links) (map-set (λ n. n.links) ns u n ∙ ap (set (map (λ n. n.links) ns) u) h)
    ∙ ap (set (set (map (λ n. n.links) ns) u no_links) i)
    (e ∙ ap (with_link t u) (ap (λ n. n.links) (get_or-set_other ns u i n d (λ q. omega arith))
    ∙ sym (get_or-map (λ n. n.links) ns i d no_links (omega arith)))))

pub returns-clause-laid : goal.returns-clause-laid
returns-clause-laid g c =
    pairs_more g.R.Record.held c.args.self.now.records.now c.args.self.now.used c.args.i c.new.result _ c.index-self-i-2.result
    (c.args.key, c.args.value)
    (held_new (λ n. g.R.Record.held n.record) (g.met.R.Record.holds c.args.key c.args.value) c.new.ensures.value) refl

pub returns-clause-links : goal.returns-clause-links
returns-clause-links g c =
    links_more c.args.self.now.records.now c.args.self.now.used c.args.i c.args.side c.new.result _ c.index-self-i.result
    c.requires.0 c.requires.1 (ap (λ n. n.links) c.new.ensures.value) c.with.ensures.value
