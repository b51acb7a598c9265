use Rattle.run.specs.Runs.{opening_of}
use Rattle.run.specs.Replays.{calls_in, Replayed}
use Rattle.run.proofs.Again.{taken_again}
use Rattle.run.proofs.log.replay_again.Goals as goal

pub returns : goal.returns
returns g c =
    let o = opening_of g.K.HappensBefore.meaning g.S.Store.meaning g.N.Store.meaning c.args.first in
    let w = opening_of g.L.HappensBefore.meaning g.T.Store.meaning g.M.Store.meaning c.args.second in
    let s = c.replay.ensures in
    let t = c.replay-2.ensures in
    let first : Replayed o (calls_in c.args.log.now) c.replay.new.log c.replay.result =
    record { asked = s.asked; answered = s.answered; stage = s.stage } in
    let second : Replayed w (calls_in c.args.again.now) c.replay-2.new.log c.replay-2.result =
    record { asked = t.asked; answered = t.answered; stage = t.stage } in
    record { first = first; second = second; clean_any_order = λ same. taken_again o w _ _ c.args.again.now _ _ _ same first second }
