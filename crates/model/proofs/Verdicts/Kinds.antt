-- The kind and the cell of a race are those of its two accesses.
use Rattle.std.proofs.Common.{◌≡◌, T, [], ◌∷◌, Some, arith}
use Rattle.model.specs.declared.Event.{Event}
use Rattle.model.specs.declared.Race.{Race}
use Rattle.model.specs.Past.{Past, at}
use Rattle.model.specs.Accesses.{CellKind}
use Rattle.model.specs.Rules.{Limits}
use Rattle.model.specs.Laws.{RacedBy, of_kind}
use Rattle.model.proofs.Shelf.Places.{at_new, at_grow}
use Rattle.model.proofs.Orderings.Races.{raced_clash}

module _ {C : Type 0} (k : CellKind C) where
  pub raced_kind : (l : Limits) (h : Past C) (r : Race C) → RacedBy k l h r → (d e : Event C)
      → at h r.first ≡ Some d → at h r.second ≡ Some e → T (of_kind k r.kind r.cell d e)
  raced_kind l [] r q d e a b = elim q [ ]
  raced_kind l (f ∷ h) r q d e a b =
      let w = raced_clash k l f h r q in
      let old = at_grow h f r.first w.it w.found in
      let new = at_new h f r.second w.latest in
      grind arith
