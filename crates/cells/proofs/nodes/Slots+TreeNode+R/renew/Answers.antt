-- One record is set, and its node's links are those that it had.
use Rattle.std.proofs.Common.{◌≡◌, Some, Option, List, map, set, get_or, is_some, ℕ, not, refl, sym, ap, ◌∙◌, arith}
use Rattle.std.proofs.lemmas.Bool.{ltb-false}
use Rattle.std.proofs.lemmas.List.{map-set}
use Rattle.std.proofs.Math.Seq.{map-set_same}
use Rattle.cells.specs.declared.node.TreeNode.{TreeNode}
use Rattle.cells.proofs.Meant.{held_new}
use Rattle.cells.proofs.nodes.Slots+TreeNode+R.renew.Goals.{then-is_none, else-is_none}
use Rattle.cells.proofs.nodes.Slots+TreeNode+R.renew.Goals as goal

pairs_set : {R P : Type 0} (held : R → Option P) (ms ns : List (TreeNode R)) → ms ≡ ns → (i : ℕ) (n : TreeNode R) (p : P)
    → held n.record ≡ Some p → map (λ n. held n.record) (set ms i n) ≡ set (map (λ n. held n.record) ns) i (Some p)
pairs_set held ms ns e i n p h =
    map-set (λ n. held n.record) ms i n
    ∙ (ap (set (map (λ n. held n.record) ms) i) h ∙ ap (λ ns. set (map (λ n. held n.record) ns) i (Some p)) e)

links_still : {R : Type 0} (ms ns : List (TreeNode R)) → ms ≡ ns → (i : ℕ) (n d : TreeNode R)
    → n.links ≡ (get_or ms i d).links → map (λ n. n.links) (set ms i n) ≡ map (λ n. n.links) ns
links_still ms ns e i n d h = map-set_same (λ n. n.links) ms i n d h ∙ ap (map (λ n. n.links)) e

pub overflow_add-self : goal.overflow_add-self
overflow_add-self g c =
    let e = sym c.requires.filled ∙ (ap is_some (sym c.pair.ensures.value) ∙ (c.is_none.ensures ∙ ap not c.if-is_none.true)) in
    let u = ltb-false c.args.i c.args.self.now.used e in
    omega arith

pub returns-clause-laid : goal.returns-clause-laid
returns-clause-laid g c =
    pairs_set g.R.Record.held c.if-is_none.self.records.now c.args.self.now.records.now
    (elim c.if-is_none.branch [
      | then-is_none w ↦ ap (λ s. s.records.now) w.self-is
      | else-is_none w ↦ ap (λ s. s.records.now) w.self-is
    ]) c.args.i _ (c.args.key, c.args.value)
    (held_new g.R.Record.held (g.met.R.Record.holds c.args.key c.args.value) c.new.ensures.value)

pub returns-clause-links : goal.returns-clause-links
returns-clause-links g c =
    links_still c.if-is_none.self.records.now c.args.self.now.records.now
    (elim c.if-is_none.branch [
      | then-is_none w ↦ ap (λ s. s.records.now) w.self-is
      | else-is_none w ↦ ap (λ s. s.records.now) w.self-is
    ]) c.args.i _ c.index-self-i.result refl
