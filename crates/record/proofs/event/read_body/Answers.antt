-- A refused number stops its event, whatever the kind.
use Rattle.std.proofs.Common.{rules, arith}
use Rattle.record.proofs.Reading.{body_stopped, numbers_stop, numbers_later, some_numbers}
use Rattle.record.proofs.event.read_body.Goals as goal

pub returns-in_err-task : goal.returns-in_err-task
returns-in_err-task c = search (rules, body_stopped, numbers_stop, some_numbers)

pub returns-in_err-child-in-Spawn : goal.returns-in_err-child-in-Spawn
returns-in_err-child-in-Spawn c = search (rules, arith, body_stopped, numbers_stop, numbers_later)

pub returns-in_err-cell-in-Read : goal.returns-in_err-cell-in-Read
returns-in_err-cell-in-Read c = search (rules, arith, body_stopped, numbers_later)

pub returns-in_err-cell-in-Write : goal.returns-in_err-cell-in-Write
returns-in_err-cell-in-Write c = search (rules, arith, body_stopped, numbers_later)
