-- What is counted of a store's answers, the digest of them, and how both are shown.
use Rattle.std.specs.Prelude.{ℕ, ◌+◌, ◌%◌, ◌^◌, Bool, cond, ◌==◌, ◌&&◌, List, ◌++◌, Some, None, Option, bit_xor, codes, decimal}
use Rattle.cells.specs.Keys.{number_hash}
use Rattle.storeplay.specs.declared.tally.Tally.{Tally}
use Rattle.storeplay.specs.declared.tally.Tallies.{Tallies}

-- nothing is answered yet
abbrev pub blank : Tally
blank = record { puts = 0; refused = 0; held = 0; found = 0; digest = 1 }

-- a count and one more, in 64 bits
abbrev pub one_more : ℕ → ℕ
one_more count = (count + 1) % 2 ^ 64

-- a word is taken into the digest
abbrev pub mixed : ℕ → Tally → Tally
mixed word t = record t { digest = number_hash (bit_xor t.digest word) }

-- whether a put was refused
abbrev pub put_told : Bool → Tally → Tally
put_told refused t =
    mixed (cond refused 18 0) (record t { puts = one_more t.puts; refused = cond refused (one_more t.refused) t.refused })

-- what a look found
abbrev pub look_told : Option ℕ → Tally → Tally
look_told None t = mixed 0 t
look_told (Some n) t = mixed (one_more n) (record t { found = one_more t.found })

-- how many keys are held, and whether the store is full
abbrev pub held_told : ℕ → Bool → Tally → Tally
held_told count full t = mixed (cond full 1 0) (record t { held = count })

abbrev pub tally_text : Tally → List ℕ
tally_text t =
    decimal t.puts ++ (codes " puts, " ++ (decimal t.refused ++ (codes " refused, " ++ (decimal t.held ++ (codes " held, "
    ++ (decimal t.found ++ (codes " found, digest " ++ decimal t.digest)))))))

-- whether two tallies are one
abbrev pub same : Tally → Tally → Bool
same a b =
    (a.puts == b.puts) && ((a.refused == b.refused) && ((a.held == b.held)
    && ((a.found == b.found) && (a.digest == b.digest))))

abbrev pub tallies_text : Tallies → List ℕ
tallies_text t = tally_text t.table ++ (codes "; table and tree: " ++ cond (same t.table t.tree) (codes "equal") (codes "different"))
