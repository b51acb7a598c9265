-- Whichever the pair is, the law is that of its replay.
use Rattle.runplay.proofs.Played.{beside_same}
use Rattle.runplay.proofs.pair.Pair.play.Goals as goal
use Rattle.runplay.proofs.pair.Pair.play.Goals.{in-TreeTable, in-TreeSearch, in-GraphTable, in-GraphSearch}

pub returns-clause-raced_beside : goal.returns-clause-raced_beside
returns-clause-raced_beside c =
    elim c.match-self.branch [
      | in-TreeTable w ↦ beside_same _ _ _ _ w.log-is w.result-is w.replay.ensures.raced_beside
      | in-TreeSearch w ↦ beside_same _ _ _ _ w.log-is w.result-is w.replay-in-TreeSearch.ensures.raced_beside
      | in-GraphTable w ↦ beside_same _ _ _ _ w.log-is w.result-is w.replay-in-GraphTable.ensures.raced_beside
      | in-GraphSearch w ↦ beside_same _ _ _ _ w.log-is w.result-is w.replay-in-GraphSearch.ensures.raced_beside
    ]
