-- What each call of an order keeper is refused for, what it answers, and which order the keeper means after it.
use Rattle.std.specs.Prelude.{ℕ, Bool, cond, not, List, [], ◌∷◌, Some, None, Ok, Err, Option, Result}
use Rattle.model.specs.Lists.{head_or}
use Rattle.model.specs.Orders.{Order, Task, gone, few, has_own, lived}
use Rattle.order.specs.declared.fault.OrderFault.{OrderFault}
use Rattle.order.specs.declared.fault.OrderFault.TheVariants.{TaskEnded, NoFinishOpen, FinishNotEmpty, FinishOpen, NoStepFree}
use Rattle.order.specs.declared.keeper.TaskStage.{TaskStage}
use Rattle.order.specs.declared.keeper.TaskStage.TheVariants.{Running, Ended}

-- the fault of the first test that passes, if one does
abbrev pub first : List (Bool × OrderFault) → Option OrderFault
first [] = None
first (p ∷ ps) = cond p.0 (Some p.1) (first ps)

-- the tests of each call, in turn, each with the fault that it is refused by

abbrev pub spawn_tests : Order → ℕ → List (Bool × OrderFault)
spawn_tests m t = (gone m t, TaskEnded) ∷ (few m 2, NoStepFree) ∷ []

abbrev pub open_tests : Order → ℕ → List (Bool × OrderFault)
open_tests m t = (gone m t, TaskEnded) ∷ (few m 1, NoStepFree) ∷ []

abbrev pub close_tests : Order → ℕ → List (Bool × OrderFault)
close_tests m t =
    (gone m t, TaskEnded)
    ∷ (not (has_own (m.task t).finishes), NoFinishOpen)
    ∷ (lived m (head_or (m.task t).finishes 0), FinishNotEmpty)
    ∷ (few m 1, NoStepFree) ∷ []

abbrev pub end_tests : Order → ℕ → List (Bool × OrderFault)
end_tests m t = (gone m t, TaskEnded) ∷ (has_own (m.task t).finishes, FinishOpen) ∷ []

-- what each call is refused for, if it is

abbrev pub spawn_fault : Order → ℕ → Option OrderFault
spawn_fault m t = first (spawn_tests m t)

abbrev pub open_fault : Order → ℕ → Option OrderFault
open_fault m t = first (open_tests m t)

abbrev pub close_fault : Order → ℕ → Option OrderFault
close_fault m t = first (close_tests m t)

abbrev pub end_fault : Order → ℕ → Option OrderFault
end_fault m t = first (end_tests m t)

-- a call is refused by its fault, or answers a
abbrev pub reply : {A : Type 0} → Option OrderFault → A → Result A OrderFault
reply None a = Ok a
reply (Some f) a = Err f

-- what a call leaves that makes n of m: the same as before it, if it is refused
abbrev pub moved : {A : Type 0} → Option OrderFault → A → A → A
moved None m n = n
moved (Some f) m n = m

-- whether a task runs; one that is not held counts as ended
abbrev pub stage_of : Task → TaskStage
stage_of k = cond k.running Running Ended
