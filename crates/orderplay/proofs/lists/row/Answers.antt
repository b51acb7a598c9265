use Rattle.std.proofs.Common.{sym, ap, ◌∷◌, [], ◌+◌, ◌*◌, ℕ}
use Rattle.order.specs.declared.replay.OrderCall.TheVariants.{Spawn, Open, Close, End}
use Rattle.orderplay.proofs.Listed.{blocks_none, block_more}
use Rattle.orderplay.proofs.lists.row.Goals as goal

pub loop-i-init : goal.loop-i-init
loop-i-init c = rw blocks_none cc

pub loop-i-preserved : goal.loop-i-preserved
loop-i-preserved c = block_more _ c.loop-i.i _ _ _ c.loop-i.invariant c.in_ok-extend_from_slice.ensures.items
    (ap (λ (n : ℕ). Open 0 ∷ Spawn 0 ∷ Spawn 0 ∷ End (2 * n + 1) ∷ End (2 * n + 2) ∷ Close 0 ∷ []) (sym c.from-made.ensures))
