-- What is counted of answers, the digest of them, and how both are shown.
use Rattle.std.specs.Prelude.{ℕ, ◌+◌, ◌*◌, ◌%◌, ◌^◌, Bool, false, cond, ◌==◌, ◌&&◌, List, ◌++◌, Ok, Err, Result, bit_xor, codes, decimal}
use Rattle.std.specs.Fmt.{radix_digits}
use Rattle.order.specs.declared.fault.OrderFault.{OrderFault}
use Rattle.order.specs.declared.replay.Made.{Made}
use Rattle.order.specs.declared.replay.Made.TheVariants.{Spawned, Next, Last}
use Rattle.order.specs.declared.replay.Standing.{Standing}
use Rattle.order.specs.Faults.{number_of}
use Rattle.orderplay.specs.declared.tally.Tally.{Tally}
use Rattle.orderplay.specs.declared.tally.Tallies.{Tallies}

-- nothing is answered yet
abbrev pub blank : Tally
blank = record { calls = 0; refused = 0; pairs = 0; before = 0; earlier = 0; digest = 14695981039346656037 }

-- a count and n more, in 64 bits
abbrev pub counted : ℕ → ℕ → ℕ
counted count n = (count + n) % 2 ^ 64

-- a word is taken into the digest
abbrev pub mixed : ℕ → Tally → Tally
mixed word t = record t { digest = bit_xor t.digest word * 1099511628211 % 2 ^ 64 }

-- so is the answer of a call that was not refused: a word for its kind, and its steps
abbrev pub made_told : Made → Tally → Tally
made_told (Spawned child next) t = mixed next (mixed child (mixed 32 t))
made_told (Next step) t = mixed step (mixed 33 t)
made_told (Last step) t = mixed step (mixed 34 t)

-- what a call answered
abbrev pub call_told : Result Made OrderFault → Tally → Tally
call_told (Ok made) t = made_told made (record t { calls = counted t.calls 1 })
call_told (Err fault) t = mixed (number_of fault) (record t { calls = counted t.calls 1; refused = counted t.refused 1 })

-- 1 for yes, and 0 for no
abbrev one_if : Bool → ℕ
one_if b = cond b 1 0

-- how two steps stand
abbrev pub pair_told : Standing → Tally → Tally
pair_told s t = mixed (2 * one_if s.before + one_if s.earlier) (record t {
  pairs = counted t.pairs 1;
  before = counted t.before (one_if s.before);
  earlier = counted t.earlier (one_if s.earlier);
})

-- the text of a tally: `7 calls, 2 refused, 49 pairs of steps, 12 before, 15 earlier`
abbrev pub tally_text : Tally → List ℕ
tally_text t =
    decimal t.calls ++ (codes " calls, " ++ (decimal t.refused ++ (codes " refused, " ++ (decimal t.pairs
    ++ (codes " pairs of steps, " ++ (decimal t.before ++ (codes " before, " ++ (decimal t.earlier ++ codes " earlier"))))))))

-- one tally for both keepers
abbrev pub even : Tally → Tallies
even t = record { tree = t; graph = t }

-- two tallies are equal
abbrev pub same : Tally → Tally → Bool
same t u =
    (t.calls == u.calls) && ((t.refused == u.refused) && ((t.pairs == u.pairs)
    && ((t.before == u.before) && ((t.earlier == u.earlier) && (t.digest == u.digest)))))

-- the text of both, in three lines: that of the tree keeper's tally, its digest, and whether the graph keeper's is equal
abbrev pub tallies_text : Tallies → List ℕ
tallies_text t =
    tally_text t.tree ++ (codes "\ndigest " ++ (radix_digits 16 false t.tree.digest
    ++ (codes "\ntree and graph: " ++ cond (same t.tree t.graph) (codes "equal") (codes "different"))))
