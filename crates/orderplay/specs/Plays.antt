-- The tally of a list of calls: of what they answer, and of how all steps then stand.
use Rattle.std.specs.Prelude.{ℕ, zero, suc, ◌+◌, ◌-◌, ◌/◌, ◌^◌, min, List, [], ◌∷◌, Ok, Err, Result}
use Rattle.model.specs.Orders.{Order, emptied}
use Rattle.order.specs.declared.fault.OrderFault.{OrderFault}
use Rattle.order.specs.declared.replay.OrderCall.{OrderCall}
use Rattle.order.specs.declared.replay.Made.{Made}
use Rattle.order.specs.declared.replay.Made.TheVariants.{Spawned, Next, Last}
use Rattle.order.specs.Calls.{reply}
use Rattle.order.specs.Replays.{fault_of, answer_of, after_call, after_calls, standing_in}
use Rattle.orderplay.specs.declared.tally.Tally.{Tally}
use Rattle.orderplay.specs.Tallies.{call_told, pair_told}

-- the last step that is held after an answer; `last` before it
abbrev pub last_after : Result Made OrderFault → ℕ → ℕ
last_after (Ok (Spawned child next)) last = next
last_after (Ok (Next step)) last = step
last_after (Ok (Last step)) last = last
last_after (Err fault) last = last

-- what a call answers
abbrev pub answer : Order → OrderCall → Result Made OrderFault
answer m c = reply (fault_of m c) (answer_of m c)

-- the answers of calls, in turn
abbrev pub calls_told : Order → List OrderCall → Tally → Tally
calls_told m [] t = t
calls_told m (c ∷ cs) t = calls_told (after_call m c) cs (call_told (answer m c) t)

-- how the step a stands to each below `end`
unfoldable pub row_told : Order → ℕ → ℕ → Tally → Tally
row_told m a zero t = t
row_told m a (suc b) t = pair_told (standing_in m a b) (row_told m a b t)

-- how each step below n stands to each below `end`
unfoldable pub rows_told : Order → ℕ → ℕ → Tally → Tally
rows_told m zero end t = t
rows_told m (suc a) end t = row_told m a end (rows_told m a end t)

-- the steps below this are asked about: those that are held, and one more (if that is a number of 64 bits)
abbrev pub asked : Order → ℕ
asked m = min (m.steps + 1) (2 ^ 64 - 1)

-- what calls from the start answer, and how all steps then stand
abbrev pub played : ℕ → List OrderCall → Tally → Tally
played limit cs t =
    let m : Order = after_calls (emptied limit) cs in
    rows_told m (asked m) (asked m) (calls_told (emptied limit) cs t)

-- how many steps a keeper may hold that has `size` records and is lent so many of them, or all that there are
abbrev pub limit_of : ℕ → ℕ → ℕ
limit_of size lent = 1 + min lent size / 4
