use Rattle.std.proofs.Common.{take, Ok}
use Rattle.std.specs.Fmt.{DisplaysOnOk}
use Rattle.runplay.specs.Logs.{calls_shown}
use Rattle.runplay.proofs.log.ShownCallsDisplay.fmt.Given as goal

-- the calls so far are written
abbrev pub invariant-loop-place : goal.invariant-loop-place
invariant-loop-place g l = DisplaysOnOk g.W.Write.write_str_gives l.initial.f (Ok tt) (calls_shown (take l.place l.call-items)) l.f
