-- What a store tells that a row of numbers is put into, and that is then asked for each number below twice as many. `key` and `value`
-- make a key and a value of a number, and `told` tells the number of a value; `same` tells whether two keys are one.
use Rattle.std.specs.Prelude.{ℕ, suc, ◌*◌, Bool, cond, List, [], ◌∷◌, nat_le, Option, option_map}
use Rattle.model.specs.Parts.{Keyed}
use Rattle.cells.specs.Puts.{put_refused, keys_named, last_put}
use Rattle.storeplay.specs.declared.row.Row.{Row}
use Rattle.storeplay.specs.declared.tally.Tally.{Tally}
use Rattle.storeplay.specs.Rows.{count_of, number_in}
use Rattle.storeplay.specs.Tallies.{put_told, look_told, held_told}

module _ {K V : Type 0} (same : K → K → Bool) (key : ℕ → K) (value : ℕ → V) (n : ℕ) (row : Row) where
  -- the puts that a store of n records takes of the first i, the latest first
  abbrev pub past : ℕ → List (K × V)
  past ℕ.zero = []
  past (suc i) =
      let k = key (number_in row i) in
      cond (put_refused same n (past i) k) (past i) ((k, value i) ∷ past i)

  -- what the store means after these
  abbrev pub meant : ℕ → Keyed K V
  meant i = record { limit = n; count = keys_named same (past i); find = last_put same (past i) }

  -- what the first i puts are answered
  abbrev pub puts_told : ℕ → Tally → Tally
  puts_told ℕ.zero t = t
  puts_told (suc i) t = put_told (put_refused same n (past i) (key (number_in row i))) (puts_told i t)

-- what looks at the numbers below j find
abbrev pub looks_told : {K V : Type 0} → (ℕ → K) → (V → ℕ) → (K → Option V) → ℕ → Tally → Tally
looks_told key told find ℕ.zero t = t
looks_told key told find (suc j) t = look_told (option_map told (find (key j))) (looks_told key told find j t)

-- the puts, then how many keys are held, and then the looks
abbrev pub played : {K V : Type 0} → (K → K → Bool) → (ℕ → K) → (ℕ → V) → (V → ℕ) → ℕ → Row → Tally → Tally
played same key value told n row t =
    let m = meant same key value n row (count_of row) in
    looks_told key told m.find (2 * count_of row) (held_told m.count (nat_le n m.count) (puts_told same key value n row (count_of row) t))
