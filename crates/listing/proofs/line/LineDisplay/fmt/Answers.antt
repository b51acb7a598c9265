use Rattle.listing.proofs.line.LineDisplay.fmt.Goals as goal

pub returns-in-Summary-clause-writes : goal.returns-in-Summary-clause-writes
returns-in-Summary-clause-writes g c = rw c.in-Summary.is c.write-in-Summary.ensures.writes
