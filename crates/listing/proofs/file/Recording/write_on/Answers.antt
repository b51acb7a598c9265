-- Each part that is written, or refused, is the next of the file's.
use Rattle.std.proofs.Common.{rules, [], ◌∷◌}
use Rattle.model.specs.declared.Event.TheVariants.{Spawn}
use Rattle.listing.specs.Files.{heading_part, job_part, event_parts}
use Rattle.listing.proofs.Parts.{so_none, so_more, so_stopped, events_more, events_stop}
use Rattle.listing.proofs.file.Recording.write_on.Goals as goal

pub returns-in_err-heading : goal.returns-in_err-heading
returns-in_err-heading c =
    let stop = so_stopped [] _ _ _ _ (so_none _ _ c.requires) heading_part (job_part c.args.self.job ∷ event_parts c.args.self.events.now) _ _ c.in_err-heading.ensures.written.2 in
    search (rules, stop)

pub returns-in_err-job : goal.returns-in_err-job
returns-in_err-job c =
    let first = so_more [] _ _ _ _ (so_none _ _ c.requires) heading_part _ _ c.in_ok-heading.ensures.written.1 in
    let stop = so_stopped (heading_part ∷ []) _ _ _ _ first (job_part c.args.self.job) (event_parts c.args.self.events.now) _ _ c.in_err-job.ensures.written.2 in
    search (rules, stop)

pub loop-event-init : goal.loop-event-init
loop-event-init c =
    let first = so_more [] _ _ _ _ (so_none _ _ c.requires) heading_part _ _ c.in_ok-heading.ensures.written.1 in
    let second = so_more (heading_part ∷ []) _ _ _ _ first (job_part c.args.self.job) _ _ c.in_ok-job.ensures.written.1 in
    search (rules, second)

pub returns-in_err-event : goal.returns-in_err-event
returns-in_err-event c =
    let stop = events_stop _ _ _ (Spawn 0 0) c.loop-event-test.true _ _ _ _ c.loop-event.invariant.1 _ _ c.in_err-event.ensures.written.2 in
    search (rules, stop)

pub loop-event-preserved : goal.loop-event-preserved
loop-event-preserved c =
    let next = events_more _ _ _ (Spawn 0 0) c.loop-event-test.true _ _ _ _ c.loop-event.invariant.1 _ _ c.in_ok-event.ensures.written.1 in
    search (rules, next)
