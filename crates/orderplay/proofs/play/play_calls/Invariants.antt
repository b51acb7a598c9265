use Rattle.std.proofs.Common.{◌≡◌, ◌+◌, drop}
use Rattle.model.specs.Orders.{emptied}
use Rattle.order.specs.Replays.{after_calls}
use Rattle.orderplay.specs.Plays.{calls_told}
use Rattle.orderplay.proofs.play.play_calls.Given as goal

-- the calls that are left lead on to where all calls lead, and tell what all tell
abbrev pub invariant-loop-call : goal.invariant-loop-call
invariant-loop-call g l =
    let meaning = g.K.HappensBefore.meaning in
    let start = emptied (meaning l.fn.keeper).limit in
    record {
      kept : after_calls (meaning l.keeper) (drop l.call-index l.calls) ≡ after_calls start l.calls;
      last : l.last + 1 ≡ (meaning l.keeper).steps;
      told : calls_told (meaning l.keeper) (drop l.call-index l.calls) l.tally ≡ calls_told start l.calls l.fn.tally;
    }
