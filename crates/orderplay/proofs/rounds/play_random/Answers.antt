use Rattle.std.proofs.Common.{length, sym, arith}
use Rattle.orderplay.proofs.Rolls.{dice_none, tally_none, dice_more, tally_more}
use Rattle.orderplay.proofs.rounds.play_random.Goals as goal

pub loop-list-init : goal.loop-list-init
loop-list-init c = record {
  rolled = sym dice_none;
  tree = rw (tally_none (length c.args.tree.now), c.new-tallies.ensures.value);
  graph = rw (tally_none (length c.args.graph.now), c.new-tallies.ensures.value);
}

pub loop-list-preserved : goal.loop-list-preserved
loop-list-preserved c = record {
  rolled = dice_more c.loop-list._list _ _ _ _ _ c.loop-list.invariant.rolled c.roll-lent.ensures.rolled c.roll-count.ensures.rolled
      c.roll-count.ensures.value c.in_ok-calls.ensures.rolled;
  tree = tally_more (length c.loop-list.tree) (length c.play_both.new.tree) c.loop-list._list _ _ _ _ _ _ _ _ _ (omega arith)
      c.loop-list.invariant.rolled c.roll-lent.ensures.rolled c.roll-lent.ensures.value c.roll-count.ensures.rolled
      c.roll-count.ensures.value c.in_ok-calls.ensures.made c.as_slice.ensures.value c.loop-list.invariant.tree c.play_both.ensures.tree;
  graph = tally_more (length c.loop-list.graph) (length c.play_both.new.graph) c.loop-list._list _ _ _ _ _ _ _ _ _ (omega arith)
      c.loop-list.invariant.rolled c.roll-lent.ensures.rolled c.roll-lent.ensures.value c.roll-count.ensures.rolled
      c.roll-count.ensures.value c.in_ok-calls.ensures.made c.as_slice.ensures.value c.loop-list.invariant.graph c.play_both.ensures.graph;
}
