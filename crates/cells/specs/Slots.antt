-- Slots in a row, each of which holds a key with its value or nothing; and what a search for a key among them comes to.
use Rattle.std.specs.Prelude.{◌≡◌, ℕ, suc, ◌<◌, Bool, false, cond, List, [], ◌∷◌, length, map, set, get_or, Some, None, Option, ◌==◌}
use Rattle.model.specs.Parts.{Keyed}
use Rattle.cells.specs.declared.slots.Slots.{Slots}
use Rattle.cells.specs.declared.slots.Seek.{Seek}
use Rattle.cells.specs.declared.slots.Seek.TheVariants.{Found, Free, Full}

abbrev pub Pairs : Type 0 → Type 0 → Type 0
Pairs K V = List (Option (K × V))

-- what lent records hold, if `held` says what each of them holds
abbrev pub pairs_in : {R K V : Type 0} → (R → Option (K × V)) → Slots R K V → Pairs K V
pairs_in held s = map held s.records.now

-- what the slot i holds; nothing, if there is no such slot
abbrev pub pair_at : {P : Type 0} → List (Option P) → ℕ → Option P
pair_at xs i = get_or xs i None

-- how many slots are used
abbrev pub used_in : {P : Type 0} → List (Option P) → ℕ
used_in [] = 0
used_in (None ∷ xs) = used_in xs
used_in (Some p ∷ xs) = suc (used_in xs)

module _ {K V : Type 0} (same : K → K → Bool) where
  -- the value of the first slot with the key
  abbrev pub find_in : Pairs K V → K → Option V
  find_in [] key = None
  find_in (None ∷ xs) key = find_in xs key
  find_in (Some p ∷ xs) key = cond (same p.0 key) (Some p.1) (find_in xs key)

  -- what the slots mean
  abbrev pub keyed_in : Pairs K V → Keyed K V
  keyed_in xs = record { limit = length xs; count = used_in xs; find = find_in xs }

  -- whether a slot has the key
  abbrev pub has_key : K → Option (K × V) → Bool
  has_key key None = false
  has_key key (Some p) = same p.0 key

  -- no slot has the key
  abbrev pub Absent : K → Pairs K V → Type 0
  Absent key xs = (j : ℕ) → has_key key (pair_at xs j) ≡ false

  -- the slot i has the key, and no other slot has it
  abbrev pub Only : K → ℕ → Pairs K V → Type 0
  Only key i xs = (j : ℕ) → has_key key (pair_at xs j) ≡ (j == i)

  -- what a search for a key comes to: to its own slot; to one that is free for it; or to neither, since all are used by other keys
  abbrev pub Sought : K → Pairs K V → Seek → Type 0
  Sought key xs (Found i) = (i < length xs) × Only key i xs
  Sought key xs (Free i) = (i < length xs) × (pair_at xs i ≡ None) × Absent key xs
  Sought key xs Full = (used_in xs ≡ length xs) × Absent key xs

-- the slots after a pair is laid where a search came to
abbrev pub laid : {P : Type 0} → Seek → P → List (Option P) → List (Option P)
laid (Found i) p xs = set xs i (Some p)
laid (Free i) p xs = set xs i (Some p)
laid Full p xs = xs
