use Rattle.std.proofs.Common.{take, Ok, codes}
use Rattle.std.specs.Fmt.{DisplaysOnOk}
use Rattle.runplay.specs.Logs.{told_shown, row_shown}
use Rattle.runplay.proofs.log.LogDisplay.fmt.Given as goal

-- the answers so far are written
abbrev pub invariant-loop-place : goal.invariant-loop-place
invariant-loop-place g l =
    DisplaysOnOk g.W.Write.write_str_gives l.initial.f (Ok tt) (row_shown (λ a. told_shown a.reply) (codes "; ") (take l.place l.asked-items)) l.f
