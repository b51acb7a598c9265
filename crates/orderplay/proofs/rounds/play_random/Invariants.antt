use Rattle.std.proofs.Common.{◌≡◌, length}
use Rattle.orderplay.specs.Rounds.{after_lists, random_tally}
use Rattle.orderplay.proofs.rounds.play_random.Given as goal

-- so many lists are rolled for, and played
abbrev pub invariant-loop-list : goal.invariant-loop-list
invariant-loop-list l = record {
  rolled : l.dice ≡ after_lists l._list;
  tree : l.tallies.tree ≡ random_tally (length l.tree) l._list;
  graph : l.tallies.graph ≡ random_tally (length l.graph) l._list;
}
