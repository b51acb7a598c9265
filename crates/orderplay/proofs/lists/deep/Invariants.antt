use Rattle.std.proofs.Common.{◌≡◌, [], ◌∷◌, vec_items}
use Rattle.order.specs.declared.replay.OrderCall.TheVariants.{Spawn, Open}
use Rattle.orderplay.specs.Lists.{blocks}
use Rattle.orderplay.proofs.lists.deep.Given as goal

abbrev pub invariant-loop-i : goal.invariant-loop-i
invariant-loop-i l = vec_items l.calls ≡ blocks (λ i. Open i ∷ Spawn i ∷ []) l.i
