-- Each return, by what was fed so far and the last answer.
use Rattle.std.proofs.Common.{◌∙◌}
use Rattle.checker.proofs.Fed.{at_end, at_bytes, fed_on, at_answer, at_event}
use Rattle.checker.proofs.feeding.feed_all.Goals as goal

pub returns-in_err-next_event : goal.returns-in_err-next_event
returns-in_err-next_event g c =
    let h = c.in_err-next_event.ensures.answered in
    record { fed = at_bytes c.loop-event.invariant _ h.0.1 h.1 h.2 _ c.from_residual.ensures.1 }

pub returns-in-None : goal.returns-in-None
returns-in-None g c =
    let h = rw c.in-None.is at c.in_ok-next_event.ensures.answered in
    record { fed = at_end c.loop-event.invariant h.0 }

pub loop-event-preserved : goal.loop-event-preserved
loop-event-preserved g c =
    let h = rw c.in-Some.is at c.in_ok-next_event.ensures.answered in
    let law = rw (c.in-Ok-Taken-None.field-0-is, c.in-Ok-Taken-None.field-0-0-is) at c.in-Ok-Taken-None.ensures.lawful in
    fed_on c.loop-event.invariant _ c.next_event.new.self h.0 h.1 _ law

pub returns-in-Ok-Taken-Some : goal.returns-in-Ok-Taken-Some
returns-in-Ok-Taken-Some g c =
    let h = rw c.in-Some.is at c.in_ok-next_event.ensures.answered in
    record { fed = at_answer c.loop-event.invariant _ c.next_event.new.self h.0 h.1 _ _ (λ x. cc) c.in-Ok-Taken-Some.ensures.lawful }

pub returns-in-Ok-Stopped : goal.returns-in-Ok-Stopped
returns-in-Ok-Stopped g c =
    let h = rw c.in-Some.is at c.in_ok-next_event.ensures.answered in
    record { fed = at_answer c.loop-event.invariant _ c.next_event.new.self h.0 h.1 _ _ (λ x. cc) c.in-Ok-Stopped.ensures.lawful }

pub returns-in-Err : goal.returns-in-Err
returns-in-Err g c =
    let h = rw c.in-Some.is at c.in_ok-next_event.ensures.answered in
    let fault = c.at.ensures.fault ∙ c.from.ensures in
    let byte = c.at.ensures.byte ∙ c.place-byte.ensures.value in
    record { fed = at_event c.loop-event.invariant _ c.next_event.new.self h.0 h.1 _ _ _ c.in-Err.ensures.lawful _ fault byte }
