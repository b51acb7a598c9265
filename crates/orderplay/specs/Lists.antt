-- The lists of calls that are played.
use Rattle.std.specs.Prelude.{ℕ, zero, suc, ◌+◌, ◌*◌, cond, List, [], ◌∷◌, ◌++◌, replicate, nat_lt, codes, decimal}
use Rattle.order.specs.declared.replay.OrderCall.{OrderCall}
use Rattle.order.specs.declared.replay.OrderCall.TheVariants.{Spawn, Open, Close, End}
use Rattle.orderplay.specs.declared.dice.Dice.{Dice}
use Rattle.orderplay.specs.declared.lists.Shape.{Shape}
use Rattle.orderplay.specs.declared.lists.Shape.TheVariants.{Chain, Nested, Wide, Row, Deep}
use Rattle.orderplay.specs.Dice.{rolled, face}

-- the call of a kind, from 0 to 15, by a task
abbrev pub call_of : ℕ → ℕ → OrderCall
call_of kind task = cond (nat_lt kind 6) (Spawn task) (cond (nat_lt kind 10) (Open task) (cond (nat_lt kind 14) (Close task) (End task)))

-- the call that three rolls give: its kind, and how far its task may be from task 0, and the task
abbrev pub any_call : Dice → OrderCall
any_call d =
    let last : ℕ = face (rolled (rolled d)) 5 in
    call_of (face (rolled d) 15) (face (rolled (rolled (rolled d))) last)

-- the dice after the rolls for n calls
unfoldable pub after_any : Dice → ℕ → Dice
after_any d zero = d
after_any d (suc n) = rolled (rolled (rolled (after_any d n)))

-- n calls that the dice give
unfoldable pub any_calls : Dice → ℕ → List OrderCall
any_calls d zero = []
any_calls d (suc n) = any_calls d n ++ (any_call (after_any d n) ∷ [])

-- n blocks of calls: the block of each number below n, in turn
unfoldable pub blocks : (ℕ → List OrderCall) → ℕ → List OrderCall
blocks block zero = []
blocks block (suc n) = blocks block n ++ block n

-- the same, from the last number down
unfoldable pub blocks_down : (ℕ → List OrderCall) → ℕ → List OrderCall
blocks_down block zero = []
blocks_down block (suc n) = block n ++ blocks_down block n

-- each task makes the next
abbrev pub chain_of : ℕ → List OrderCall
chain_of n = blocks (λ i. Spawn i ∷ []) n

-- task 0 opens n finishes, each in the last, and closes them
abbrev pub nested_of : ℕ → List OrderCall
nested_of n = replicate n (Open 0) ++ replicate n (Close 0)

-- task 0 opens a finish, n tasks are made and end there, and it closes it
abbrev pub wide_of : ℕ → List OrderCall
wide_of n = (Open 0 ∷ []) ++ blocks (λ i. Spawn 0 ∷ End (i + 1) ∷ []) n ++ (Close 0 ∷ [])

-- n times, task 0 opens a finish, two tasks are made and end there, and it closes it
abbrev pub row_of : ℕ → List OrderCall
row_of n = blocks (λ i. Open 0 ∷ Spawn 0 ∷ Spawn 0 ∷ End (2 * i + 1) ∷ End (2 * i + 2) ∷ Close 0 ∷ []) n

-- the tasks from n down end, and after each the one before closes its finish
abbrev pub ends_of : ℕ → List OrderCall
ends_of n = blocks_down (λ i. End (i + 1) ∷ Close i ∷ []) n

-- each task opens a finish and makes the next in it; and then they end and close them
abbrev pub deep_of : ℕ → List OrderCall
deep_of n = blocks (λ i. Open i ∷ Spawn i ∷ []) n ++ ends_of n

-- the list of a shape
abbrev pub shape_calls : Shape → List OrderCall
shape_calls (Chain n) = chain_of n
shape_calls (Nested n) = nested_of n
shape_calls (Wide n) = wide_of n
shape_calls (Row n) = row_of n
shape_calls (Deep n) = deep_of n

-- the name of a shape
abbrev pub shape_text : Shape → List ℕ
shape_text (Chain n) = decimal n ++ codes " tasks, each made by the one before"
shape_text (Nested n) = decimal n ++ codes " finishes of one task, each in the last"
shape_text (Wide n) = decimal n ++ codes " tasks in one finish"
shape_text (Row n) = decimal n ++ codes " finishes, one after the other"
shape_text (Deep n) = decimal n ++ codes " finishes, each of a task made in the last"
