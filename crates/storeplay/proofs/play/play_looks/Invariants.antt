-- What is found so far is told.
use Rattle.std.proofs.Common.{◌≡◌}
use Rattle.storeplay.specs.Plays.{looks_told}
use Rattle.storeplay.proofs.play.play_looks.Given as goal

abbrev pub invariant-loop-n : goal.invariant-loop-n
invariant-loop-n g l = l.tally ≡ looks_told g.K.FromNumber.made g.V.Numbered.told (g.S.Store.meaning l.store).find l.n l.fn.tally
