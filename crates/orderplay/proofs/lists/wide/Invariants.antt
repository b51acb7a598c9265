use Rattle.std.proofs.Common.{◌≡◌, ◌+◌, [], ◌∷◌, ◌++◌, vec_items}
use Rattle.order.specs.declared.replay.OrderCall.TheVariants.{Spawn, Open, End}
use Rattle.orderplay.specs.Lists.{blocks}
use Rattle.orderplay.proofs.lists.wide.Given as goal

abbrev pub invariant-loop-i : goal.invariant-loop-i
invariant-loop-i l = vec_items l.calls ≡ (Open 0 ∷ []) ++ blocks (λ i. Spawn 0 ∷ End (i + 1) ∷ []) l.i
