-- Search trees in a row of slots. Slot 0 is the root, and each slot has links to two others, with smaller keys on its left and with
-- larger ones on its right. A link 0 leads nowhere, since nothing leads to the root. The slots are used in turn.
use Rattle.std.specs.Prelude.{◌≡◌, ℕ, suc, ◌<◌, Bool, true, false, cond, List, length, map, set, get_or, Some, None, Option, ◌==◌, nat_lt, is_some}
use Rattle.std.specs.declared.cmp.Ordering.{Ordering}
use Rattle.std.specs.declared.cmp.Ordering.TheVariants.{Less, Equal, Greater}
use Rattle.std.proofs.Props.{props}
use Rattle.model.specs.Lists.{some_or}
use Rattle.cells.specs.declared.slots.Slots.{Slots}
use Rattle.cells.specs.declared.node.Links.{Links}
use Rattle.cells.specs.declared.node.Side.{Side}
use Rattle.cells.specs.declared.node.Side.TheVariants.{Left, Right}
use Rattle.cells.specs.declared.node.TreeNode.{TreeNode}
use Rattle.cells.specs.declared.nodes.Stop.{Stop}
use Rattle.cells.specs.declared.nodes.Stop.TheVariants.{At, Off}
use Rattle.cells.specs.Records.{record_in, no_links}
use Rattle.cells.specs.Slots.{Pairs, pairs_in, pair_at}

-- what nodes hold, if `held` says what each record holds
abbrev pub pairs_of : {R K V : Type 0} → (R → Option (K × V)) → Slots (TreeNode R) K V → Pairs K V
pairs_of held s = pairs_in (λ n. held (record_in n)) s

-- the links of nodes
abbrev pub links_in : {R K V : Type 0} → Slots (TreeNode R) K V → List Links
links_in s = map (λ n. n.links) s.records.now

-- one of two links, and the links with that one changed
abbrev pub link_to : Side → Links → ℕ
link_to Left l = l.left
link_to Right l = l.right

abbrev pub with_link : Side → ℕ → Links → Links
with_link Left n l = record l { left = n }
with_link Right n l = record l { right = n }

-- the link of the slot i on a side
abbrev pub link_at : List Links → ℕ → Side → ℕ
link_at ls i side = link_to side (get_or ls i no_links)

-- the links, with a leaf at n, which hangs from the slot i
abbrev pub hung : List Links → ℕ → ℕ → Side → List Links
hung ls n i side = set (set ls n no_links) i (with_link side n (get_or ls i no_links))

-- the side on which what is less, or greater, hangs
abbrev pub side_by : Ordering → Option Side
side_by Less = Some Left
side_by Equal = None
side_by Greater = Some Right

-- where a walk ended at a slot
abbrev pub is_at : Option Stop → ℕ → Bool
is_at None j = false
is_at (Some (At i)) j = i == j
is_at (Some (Off i side)) j = false

module _ {K V : Type 0} (cmp : K → K → Ordering) where
  -- the side of a slot on which a key hangs; none, if it is the slot's own or the slot is free
  abbrev pub side_of : K → Option (K × V) → Option Side
  side_of key None = None
  side_of key (Some p) = side_by (cmp key p.0)

  -- the walk for a key from the slot i on: it ends at a slot that is the key's own or is free, or at the side of one where no link
  -- leads on; or nowhere, after f slots
  abbrev pub walk : Pairs K V → List Links → ℕ → K → ℕ → Option Stop
  walk xs ls ℕ.zero key i = None
  walk xs ls (suc f) key i =
      some_or (λ side. cond (link_at ls i side == 0) (Some (Off i side)) (walk xs ls f key (link_at ls i side))) (Some (At i))
      (side_of key (pair_at xs i))

  -- the walk for a key from the root
  abbrev pub walk_for : Pairs K V → List Links → K → Option Stop
  walk_for xs ls key = walk xs ls (length xs) key 0

  -- what holds of a tree from call to call
  pub record Grown (xs : Pairs K V) (ls : List Links) (used : ℕ) : Type 0 where
    -- the first slots are used
    pub filled : (j : ℕ) → is_some (pair_at xs j) ≡ nat_lt j used
    -- links lead to later slots, so every walk ends
    pub rising : (j : ℕ) (side : Side) → 0 < link_at ls j side → (j < link_at ls j side) × (link_at ls j side < used)
    -- the walk for a key that is held ends at its slot
    pub routed : (j : ℕ) (p : K × V) → pair_at xs j ≡ Some p → is_at (walk_for xs ls p.0) j ≡ true

  -- it holds in one way
  pub grown_prop : (xs : Pairs K V) (ls : List Links) (used : ℕ) → IsProp (Grown xs ls used)
  grown_prop xs ls used = Prim.hlevel props
