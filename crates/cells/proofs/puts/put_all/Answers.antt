use Rattle.cells.proofs.Lasting.{left-none, left-more, left-all}
use Rattle.cells.proofs.puts.put_all.Goals as goal

pub loop-put-init : goal.loop-put-init
loop-put-init g c = left-none g.S.Key.PartialEq.eq _ _ _ c.empty.ensures.kept

pub loop-put-preserved : goal.loop-put-preserved
loop-put-preserved g c =
    left-more g.S.Key.PartialEq.eq _ _ _ _ _ c.put-item.result c.loop-put-test.true c.put-item.is c.put.ensures.kept c.loop-put.invariant

pub returns : goal.returns
returns g c = record { kept = left-all g.S.Key.PartialEq.eq _ _ _ _ c.loop-put-test.false c.loop-put.invariant }
