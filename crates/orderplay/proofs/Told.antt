-- Tallies, one pair, one row and one call at a time.
use Rattle.std.proofs.Common.{◌≡◌, ℕ, suc, ◌+◌, ◌<◌, List, ◌∷◌, Option, Some, None, Ok, Result, length, get_or, drop, refl, sym, ap, ◌∙◌, add-one, arith}
use Rattle.std.proofs.Math.Seq.{drop-cons}
use Rattle.model.specs.Orders.{Order, spawned, opened, closed, done}
use Rattle.order.specs.declared.fault.OrderFault.{OrderFault}
use Rattle.order.specs.declared.replay.Made.{Made}
use Rattle.order.specs.declared.replay.Made.TheVariants.{Spawned, Next, Last}
use Rattle.order.specs.declared.replay.OrderCall.TheVariants.{Spawn, Open, Close, End}
use Rattle.order.specs.declared.replay.OrderCall.{OrderCall}
use Rattle.order.specs.Calls.{spawn_fault, open_fault, close_fault, end_fault, reply, moved}
use Rattle.order.specs.Replays.{after_call, standing_in}
use Rattle.orderplay.specs.declared.tally.Tally.{Tally}
use Rattle.orderplay.specs.Tallies.{call_told, pair_told}
use Rattle.orderplay.specs.Plays.{last_after, answer, calls_told, row_told, rows_told}

-- the definitions, unfolded once

pub row_none : (m : Order) (a : ℕ) (t : Tally) → row_told m a 0 t ≡ t
unfolding row_told
row_none m a t = refl

pub row_next : (m : Order) (a b : ℕ) (t : Tally) → row_told m a (b + 1) t ≡ pair_told (standing_in m a b) (row_told m a b t)
unfolding row_told
row_next m a b t = rw (add-one b)

pub rows_none : (m : Order) (end : ℕ) (t : Tally) → rows_told m 0 end t ≡ t
unfolding rows_told
rows_none m end t = refl

pub rows_next : (m : Order) (a end : ℕ) (t : Tally) → rows_told m (a + 1) end t ≡ row_told m a end (rows_told m a end t)
unfolding rows_told
rows_next m a end t = rw (add-one a)

-- one more call told, and one fewer left
pub told_more : (cs : List OrderCall) (i : ℕ) (d : OrderCall) (m n : Order) (r : Result Made OrderFault) (t u o : Tally)
    → i < length cs → n ≡ after_call m (get_or cs i d) → r ≡ answer m (get_or cs i d) → u ≡ call_told r t
    → calls_told m (drop i cs) t ≡ o → calls_told n (drop (i + 1) cs) u ≡ o
told_more cs i d m n r t u o l e f g h =
    let next : i + 1 ≡ suc i = omega arith in
    let here : calls_told m (drop i cs) t ≡ calls_told m (get_or cs i d ∷ drop (suc i) cs) t =
    ap (λ zs. calls_told m zs t) (drop-cons cs i d l)
    in
    rw (next, e, g, f) (sym here ∙ h)

-- the last step that is held after a call that is refused by o, or answers a and leads to n
held_moved : (o : Option OrderFault) (a : Made) (m n : Order) (last : ℕ) → last + 1 ≡ m.steps → last_after (Ok a) last + 1 ≡ n.steps
    → last_after (reply o a) last + 1 ≡ (moved o m n).steps
held_moved None a m n last e f = f
held_moved (Some x) a m n last e f = e

held_after : (m : Order) (c : OrderCall) (last : ℕ) → last + 1 ≡ m.steps → last_after (answer m c) last + 1 ≡ (after_call m c).steps
held_after m (Spawn t) last e = held_moved (spawn_fault m t) (Spawned m.steps (m.steps + 1)) m (spawned m t) last e (omega arith)
held_after m (Open t) last e = held_moved (open_fault m t) (Next m.steps) m (opened m t) last e refl
held_after m (Close t) last e = held_moved (close_fault m t) (Next m.steps) m (closed m t) last e refl
held_after m (End t) last e = held_moved (end_fault m t) (Last (m.task t).current) m (done m t) last e e

-- the last step that is held after one of a list of calls
pub last_held : (cs : List OrderCall) (i : ℕ) (d : OrderCall) (m n : Order) (r : Result Made OrderFault) (last next : ℕ)
    → last + 1 ≡ m.steps → r ≡ answer m (get_or cs i d) → next ≡ last_after r last → n ≡ after_call m (get_or cs i d) → next + 1 ≡ n.steps
last_held cs i d m n r last next e f g h = rw (h, g, f) (held_after m (get_or cs i d) last e)
