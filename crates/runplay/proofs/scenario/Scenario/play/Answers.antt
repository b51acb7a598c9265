-- The calls of a new log are made, and it has what they are answered.
use Rattle.std.proofs.Common.{map, Some, ap, ◌∙◌}
use Rattle.std.proofs.lemmas.List.{take_at}
use Rattle.model.specs.Mailboxes.{mailbox_cells}
use Rattle.model.specs.Runs.{replies}
use Rattle.run.specs.Replays.{calls_in, replies_in}
use Rattle.runplay.specs.declared.pair.TheConstants.{JOB}
use Rattle.runplay.specs.Rooms.{opening_in}
use Rattle.runplay.proofs.Played.{calls_unmade}
use Rattle.runplay.proofs.scenario.Scenario.play.Goals as goal

pub returns : goal.returns
returns c =
    let calls = ap calls_in (c.as_mut_slice.ensures.value ∙ c.in_ok-log.ensures.made) ∙ calls_unmade c.args.self.now.calls.now in
    let whole = take_at c.play.new.log _ _ (c.play.auto.log ∙ c.as_mut_slice.ensures.len) in
    let told = ap (λ cs. map Some (replies mailbox_cells (opening_in JOB c.args.self.now.room) cs)) calls in
    record {
      asked = ap calls_in whole ∙ c.in_ok-play.ensures.asked ∙ calls;
      answered = ap replies_in whole ∙ c.in_ok-play.ensures.answered ∙ told;
    }
