use Rattle.std.proofs.Common.{rules}
use Rattle.std.proofs.lemmas.List.{nil_from_length}
use Rattle.record.specs.Events.{nothing}
use Rattle.record.proofs.Only.{event_only}
use Rattle.record.proofs.Reading.{kind_unknown}
use Rattle.record.proofs.event.read_event.Goals as goal

pub returns-in_err-byte : goal.returns-in_err-byte
returns-in_err-byte c = search (rules, event_only, nothing, nil_from_length)

pub returns-in_err-try_from : goal.returns-in_err-try_from
returns-in_err-try_from c = search (rules, event_only, kind_unknown)

pub returns-clause-only : goal.returns-clause-only
returns-clause-only c = event_only _ _ (search rules)
