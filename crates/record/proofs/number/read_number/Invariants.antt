use Rattle.record.proofs.Scanning.{SoFar}
use Rattle.record.proofs.number.read_number.Given as goal

abbrev pub invariant-loop-i : goal.invariant-loop-i
invariant-loop-i l = SoFar l.bytes l.i l.value l.weight
