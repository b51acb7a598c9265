use Rattle.cells.proofs.Lasting.{Left}
use Rattle.cells.proofs.puts.put_all.Given as goal

-- what the puts so far lead to, from which the puts that are left lead on
abbrev pub invariant-loop-put : goal.invariant-loop-put
invariant-loop-put g l =
    Left g.S.Key.PartialEq.eq (g.S.Store.meaning l.fn.store).limit l.puts (g.S.Store.meaning l.store) l.put-index
