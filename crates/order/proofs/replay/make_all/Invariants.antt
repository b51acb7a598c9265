use Rattle.std.proofs.Common.{◌≡◌, drop}
use Rattle.model.specs.Orders.{emptied}
use Rattle.order.specs.Replays.{after_calls}
use Rattle.order.proofs.replay.make_all.Given as goal

-- the calls that are left lead on to where all calls lead
abbrev pub invariant-loop-call : goal.invariant-loop-call
invariant-loop-call g l =
    let meaning = g.K.HappensBefore.meaning in
    after_calls (meaning l.keeper) (drop l.call-index l.calls) ≡ after_calls (emptied (meaning l.fn.keeper).limit) l.calls
