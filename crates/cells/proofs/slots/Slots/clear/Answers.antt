use Rattle.std.proofs.Common.{◌∙◌, arith}
use Rattle.std.proofs.lemmas.List.{length-set}
use Rattle.cells.proofs.Meant.{blanked-more, blanked-all}
use Rattle.cells.proofs.slots.Slots.clear.Goals as goal

pub loop-i-preserved : goal.loop-i-preserved
loop-i-preserved g c =
    let xs = c.loop-i.self.records.now in (
      length-set xs c.loop-i.i c.BLANK.result ∙ c.loop-i.invariant.0,
      blanked-more g.R.Record.BLANK xs c.loop-i.i c.BLANK.result c.BLANK.ensures (omega arith) c.loop-i.invariant.1,
    )

pub returns-clause-blank : goal.returns-clause-blank
returns-clause-blank g c =
    blanked-all g.R.Record.BLANK c.loop-i.self.records.now c.loop-i.i _ c.loop-i.invariant.0 (omega arith) c.loop-i.invariant.1
