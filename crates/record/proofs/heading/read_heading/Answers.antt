use Rattle.std.proofs.Common.{rules}
use Rattle.record.proofs.Headings.{heading_short, heading_wrong}
use Rattle.record.proofs.heading.read_heading.Goals as goal

pub returns-in-None-clause-answered : goal.returns-in-None-clause-answered
returns-in-None-clause-answered c = search (rules, heading_short)

pub returns-in-None-2-clause-answered : goal.returns-in-None-2-clause-answered
returns-in-None-2-clause-answered c = search (rules, heading_wrong)
