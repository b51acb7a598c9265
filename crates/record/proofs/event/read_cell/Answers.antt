use Rattle.std.proofs.Common.{rules, arith}
use Rattle.record.proofs.Reading.{numbers_stop, numbers_later}
use Rattle.record.proofs.event.read_cell.Goals as goal

pub returns-in_err-block : goal.returns-in_err-block
returns-in_err-block c = search (rules, arith, numbers_stop, numbers_later)
