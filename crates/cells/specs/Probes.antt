-- Probing: a key is looked for from its home slot on, slot by slot and round again to the first.
use Rattle.std.specs.Prelude.{◌≡◌, ℕ, ◌+◌, ◌-◌, ◌*◌, ◌/◌, ◌^◌, ◌<◌, Bool, true, false, cond, not, length, Some, None, Option, nat_lt, nat_le, ⊤}
use Rattle.std.proofs.Props.{props}
use Rattle.cells.specs.declared.slots.Seek.{Seek}
use Rattle.cells.specs.declared.slots.Seek.TheVariants.{Found, Free, Full}
use Rattle.cells.specs.Slots.{Pairs, pair_at}

-- the home slot, among n, of a key with the hash h: as far along the slots as h is along 2^64
abbrev pub home : ℕ → ℕ → ℕ
home n h = h * n / 2 ^ 64

-- the slot, among n, that stands d slots after the slot h
abbrev pub visit : ℕ → ℕ → ℕ → ℕ
visit n h d = cond (nat_lt (h + d) n) (h + d) (h + d - n)

-- how many slots the slot j stands after the slot h, among n
abbrev pub distance : ℕ → ℕ → ℕ → ℕ
distance n h j = cond (nat_le h j) (j - h) (j + n - h)

module _ {K V : Type 0} (same : K → K → Bool) where
  -- the slot is used by another key
  abbrev pub has_other : K → Option (K × V) → Bool
  has_other key None = false
  has_other key (Some p) = not (same p.0 key)

  -- what a search for the key comes to in the slot i, by what that holds; none, if that is another key
  abbrev pub met : K → ℕ → Option (K × V) → Option Seek
  met key i None = Some (Free i)
  met key i (Some p) = cond (same p.0 key) (Some (Found i)) None

  -- the first t slots from the slot h on are used by other keys
  abbrev pub Passed : K → Pairs K V → ℕ → ℕ → Type 0
  Passed key xs h t = (d : ℕ) → d < t → has_other key (pair_at xs (visit (length xs) h d)) ≡ true

  module _ (hashed : K → ℕ) where
    -- the slots from a key's home slot to the slot j are used by other keys
    abbrev pub PassedTo : K → Pairs K V → ℕ → Type 0
    PassedTo key xs j =
        let h = home (length xs) (hashed key) in
        Passed key xs h (distance (length xs) h j)

    -- each key that is held can be found: the slots from its home slot to its own are used by other keys
    abbrev pub Probed : Pairs K V → Type 0
    Probed xs = (j : ℕ) (key : K) (v : V) → j < length xs → pair_at xs j ≡ Some (key, v) → PassedTo key xs j

    -- slots are so in one way
    pub probed_prop : (xs : Pairs K V) → IsProp (Probed xs)
    probed_prop xs = Prim.hlevel props

    -- the slot that a search found free can be found again
    abbrev pub FreeFound : K → Pairs K V → Seek → Type 0
    FreeFound key xs (Found i) = ⊤
    FreeFound key xs (Free i) = PassedTo key xs i
    FreeFound key xs Full = ⊤
