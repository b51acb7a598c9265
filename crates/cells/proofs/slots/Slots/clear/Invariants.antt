use Rattle.std.proofs.Common.{◌≡◌, ◌<◌, length, get_or, ℕ}
use Rattle.cells.proofs.slots.Slots.clear.Given as goal

-- the records before the next one are blank
abbrev pub invariant-loop-i : goal.invariant-loop-i
invariant-loop-i g l =
    (length l.self.records.now ≡ length l.fn.self.records.now)
    × ((j : ℕ) → j < l.i → get_or l.self.records.now j g.R.Record.BLANK ≡ g.R.Record.BLANK)
