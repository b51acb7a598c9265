use Rattle.model.specs.Mailboxes.{mailbox_cells}
use Rattle.model.proofs.Whole.{upheld}
use Rattle.run.specs.Runs.{opening_of}
use Rattle.run.specs.Replays.{calls_in}
use Rattle.run.specs.Replays.{Replayed}
use Rattle.run.proofs.Telling.{replayed_on, taken_is, laws_told}
use Rattle.run.proofs.log.replay.Goals as goal

pub returns : goal.returns
returns g c =
    let o = opening_of g.K.HappensBefore.meaning g.S.Store.meaning g.N.Store.meaning c.args.opening in
    let cs = calls_in c.args.log.now in
    let t : Replayed o cs c.call_all.new.log c.stage.result =
    replayed_on _ _ _ o _ _ c.args.log.now _ _ c.open-run.ensures.led c.call_all.ensures.replayed c.stage.ensures.value in
    let w = laws_told o cs _ _ t in
    record {
      asked = t.asked;
      answered = t.answered;
      taken = taken_is o cs _ _ t;
      stage = t.stage;
      clean_settled = w.clean_settled;
      raced_latest = w.raced_latest;
      raced_beside = w.raced_beside;
      clean_any_order = w.clean_any_order;
      first_named = w.first_named;
      upheld = upheld mailbox_cells o cs;
    }
