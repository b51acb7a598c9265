-- Lists of puts: which of them are taken, and what each key then has. A put is a key with its value; `same` tells whether two keys
-- are one.
use Rattle.std.specs.Prelude.{ℕ, ◌+◌, Bool, cond, not, ◌&&◌, List, [], ◌∷◌, Some, None, Option, nat_le}
use Rattle.model.specs.Lists.{any}
use Rattle.model.specs.Parts.{Keyed}

module _ {K V : Type 0} (same : K → K → Bool) where
  -- whether one of the puts is for the key
  abbrev pub named : List (K × V) → K → Bool
  named ps key = any (λ p. same p.0 key) ps

  -- how many keys the puts are for
  abbrev pub keys_named : List (K × V) → ℕ
  keys_named [] = 0
  keys_named (p ∷ ps) = cond (named ps p.0) (keys_named ps) (keys_named ps + 1)

  -- a store of n records that took the puts refuses one for the key: it is new to them, and they are for n keys or more
  abbrev pub put_refused : ℕ → List (K × V) → K → Bool
  put_refused n ps key = not (named ps key) && nat_le n (keys_named ps)

  -- the puts that are taken, the latest first: those of a list, in turn, after those that were taken before
  abbrev pub taken_on : ℕ → List (K × V) → List (K × V) → List (K × V)
  taken_on n past [] = past
  taken_on n past (p ∷ ps) = taken_on n (cond (put_refused n past p.0) past (p ∷ past)) ps

  -- the puts of a list that a store of n records takes, from empty on
  abbrev pub puts_taken : ℕ → List (K × V) → List (K × V)
  puts_taken n ps = taken_on n [] ps

  -- the value that was put last for a key, of puts with the latest first
  abbrev pub last_put : List (K × V) → K → Option V
  last_put [] key = None
  last_put (p ∷ ps) key = cond (same p.0 key) (Some p.1) (last_put ps key)

  -- what a store of n records means after the puts, from empty on
  abbrev pub meant_after : ℕ → List (K × V) → Keyed K V
  meant_after n ps = record { limit = n; count = keys_named (puts_taken n ps); find = last_put (puts_taken n ps) }
