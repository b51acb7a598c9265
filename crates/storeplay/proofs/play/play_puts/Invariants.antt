-- What the numbers so far lead to, and are told.
use Rattle.std.proofs.Common.{◌≡◌}
use Rattle.storeplay.specs.Plays.{meant, puts_told}
use Rattle.storeplay.proofs.play.play_puts.Given as goal

abbrev pub invariant-loop-i : goal.invariant-loop-i
invariant-loop-i g l =
    let n = (g.S.Store.meaning l.fn.store).limit in
    (g.S.Store.meaning l.store ≡ meant g.K.PartialEq.eq g.K.FromNumber.made g.V.FromNumber.made n l.row l.i)
    × (l.tally ≡ puts_told g.K.PartialEq.eq g.K.FromNumber.made g.V.FromNumber.made n l.row l.i l.fn.tally)
