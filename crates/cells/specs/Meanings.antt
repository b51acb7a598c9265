-- What the two stores mean: what their slots do. `held` says what a record holds, and `same` whether two keys are one; A to E are what
-- the bounds of the record's type say of it.
use Rattle.std.specs.Prelude.{Bool, Option}
use Rattle.model.specs.Parts.{Keyed}
use Rattle.cells.specs.declared.table.Table.{Table}
use Rattle.cells.specs.declared.tree.SearchTree.{SearchTree}
use Rattle.cells.specs.Slots.{pairs_in, keyed_in}
use Rattle.cells.specs.Walks.{pairs_of}

module _ {R K V : Type 0} (held : R → Option (K × V)) (same : K → K → Bool) where
  abbrev pub table_meaning : {A : _} {B : _} {C : _} {D : _} {E : _} → Table R K V A B C D E → Keyed K V
  table_meaning t = keyed_in same (pairs_in held t.slots)

  abbrev pub tree_meaning : {A : _} {B : _} {C : _} {D : _} {E : _} → SearchTree R K V A B C D E → Keyed K V
  tree_meaning t = keyed_in same (pairs_of held t.slots)
