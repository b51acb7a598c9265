-- What records hold, and which of them are blank or made of a pair. A node's record holds what the node does.
use Rattle.std.specs.Prelude.{Some, None, Option}
use Rattle.cells.specs.declared.record.PairRecord.{PairRecord}
use Rattle.cells.specs.declared.node.Links.{Links}
use Rattle.cells.specs.declared.node.TreeNode.{TreeNode}

module _ {K V : Type 0} where
  abbrev pub pair_in : PairRecord K V → Option (K × V)
  pair_in r = r.pair

  abbrev pub blank_record : PairRecord K V
  blank_record = record { pair = None }

  abbrev pub record_of : K → V → PairRecord K V
  record_of k v = record { pair = Some (k, v) }

-- a leaf's links
abbrev pub no_links : Links
no_links = record { left = 0; right = 0 }

module _ {R : Type 0} where
  abbrev pub record_in : TreeNode R → R
  record_in n = n.record

  -- the node of a record, with nothing below it
  abbrev pub leaf : R → TreeNode R
  leaf r = record { «record» = r; links = no_links }
