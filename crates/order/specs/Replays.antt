-- Lists of calls: which order they lead to, refused ones included.
use Rattle.std.specs.Prelude.{◌≡◌, ℕ, ◌+◌, ◌≤◌, false, ◌⊎◌, List, [], ◌∷◌, Option}
use Rattle.model.specs.Orders.{Order, emptied, spawned, opened, closed, done}
use Rattle.model.specs.Reached.{Reached}
use Rattle.order.specs.declared.fault.OrderFault.{OrderFault}
use Rattle.order.specs.declared.replay.OrderCall.{OrderCall}
use Rattle.order.specs.declared.replay.OrderCall.TheVariants.{Spawn, Open, Close, End}
use Rattle.order.specs.declared.replay.Made.{Made}
use Rattle.order.specs.declared.replay.Made.TheVariants.{Spawned, Next, Last}
use Rattle.order.specs.declared.replay.Standing.{Standing}
use Rattle.order.specs.Calls.{spawn_fault, open_fault, close_fault, end_fault, moved}

-- what a call is refused for
abbrev pub fault_of : Order → OrderCall → Option OrderFault
fault_of m (Spawn t) = spawn_fault m t
fault_of m (Open t) = open_fault m t
fault_of m (Close t) = close_fault m t
fault_of m (End t) = end_fault m t

-- what a call answers that is not refused
abbrev pub answer_of : Order → OrderCall → Made
answer_of m (Spawn t) = Spawned m.steps (m.steps + 1)
answer_of m (Open t) = Next m.steps
answer_of m (Close t) = Next m.steps
answer_of m (End t) = Last (m.task t).current

-- what is meant after a call that is not refused
abbrev pub order_made : Order → OrderCall → Order
order_made m (Spawn t) = spawned m t
order_made m (Open t) = opened m t
order_made m (Close t) = closed m t
order_made m (End t) = done m t

-- what is meant after a call
abbrev pub after_call : Order → OrderCall → Order
after_call m c = moved (fault_of m c) m (order_made m c)

-- what is meant after calls, in turn
abbrev pub after_calls : Order → List OrderCall → Order
after_calls m [] = m
after_calls m (c ∷ cs) = after_calls (after_call m c) cs

-- how two steps stand in an order
abbrev pub standing_in : Order → ℕ → ℕ → Standing
standing_in m a b = record { before = m.before a b; earlier = m.earlier a b }

-- whatever calls are made from the start on, the order that they lead to is one that calls of running tasks reach, and the answer r
-- about the steps a and b is what it says of them
abbrev pub SaysReached : ℕ → List OrderCall → ℕ → ℕ → Standing → Type 0
SaysReached limit cs a b r = Reached limit (after_calls (emptied limit) cs) × (r ≡ standing_in (after_calls (emptied limit) cs) a b)

-- neither before nor earlier
abbrev pub neither : Standing
neither = record { before = false; earlier = false }

-- of a step against itself, and of a step that is not held, it says no
abbrev pub SaysNo : ℕ → List OrderCall → ℕ → ℕ → Standing → Type 0
SaysNo limit cs a b r =
    let m = after_calls (emptied limit) cs in
    (a ≡ b) ⊎ ((m.steps ≤ a) ⊎ (m.steps ≤ b)) → r ≡ neither
