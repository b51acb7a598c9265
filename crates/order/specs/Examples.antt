-- How much a keeper may hold, which of two refusals is given, what calls answer, and how many links are climbed, by computation.
use Rattle.std.specs.Prelude.{◌≡◌, ℕ, ◌+◌, ◌/◌, List, [], ◌∷◌, Some, None, Option}
use Rattle.model.specs.Orders.{emptied}
use Rattle.order.specs.declared.fault.OrderFault.{OrderFault}
use Rattle.order.specs.declared.fault.OrderFault.TheVariants.{TaskEnded, NoFinishOpen, FinishNotEmpty, FinishOpen, NoStepFree}
use Rattle.order.specs.declared.replay.OrderCall.{OrderCall}
use Rattle.order.specs.declared.replay.OrderCall.TheVariants.{Spawn, Open, Close, End}
use Rattle.order.specs.declared.replay.Made.{Made}
use Rattle.order.specs.declared.replay.Made.TheVariants.{Spawned, Next, Last}
use Rattle.order.specs.declared.keeper.TaskStage.TheVariants.{Running, Ended}
use Rattle.order.specs.Faults.{number_of}
use Rattle.order.specs.Calls.{stage_of}
use Rattle.order.specs.Replays.{fault_of, answer_of, after_calls}
use Rattle.order.specs.Keepers.{relation_in}
use Rattle.order.specs.Grown.{tree_after}

-- what a keeper that was lent n records says to one more call after others
abbrev pub refused_with : ℕ → List OrderCall → OrderCall → Option OrderFault
refused_with n cs c = fault_of (after_calls (emptied (1 + n / 4)) cs) c

-- eight records are for two steps: one spawn, and then an open is refused, or an end and a spawn of the child's
-- with seven there is one step less, and with none there are step 0, task 0 and the outer finish alone
abbrev pub RoomShown : Type 0
RoomShown =
    (refused_with 8 [] (Spawn 0) ≡ None)
    × (refused_with 8 (Spawn 0 ∷ []) (Open 0) ≡ Some NoStepFree)
    × (refused_with 8 (Spawn 0 ∷ []) (End 1) ≡ None)
    × (refused_with 7 [] (Spawn 0) ≡ Some NoStepFree)
    × (refused_with 7 [] (Open 0) ≡ None)
    × (refused_with 7 (Spawn 0 ∷ []) (Open 0) ≡ None)
    × (refused_with 0 [] (Open 0) ≡ Some NoStepFree)
    × (refused_with 0 [] (End 0) ≡ None)
    × (refused_with 0 (End 0 ∷ []) (End 0) ≡ Some TaskEnded)

-- where two refusals fit, the first of 13, 14, 15, 16, 17 is given
abbrev pub FirstFaults : Type 0
FirstFaults =
    -- a task that is not held, with no step free; a task that has ended, with no finish open
    (refused_with 0 [] (Spawn 1) ≡ Some TaskEnded)
    × (refused_with 0 (End 0 ∷ []) (Open 0) ≡ Some TaskEnded)
    × (refused_with 4 (End 0 ∷ []) (Close 0) ≡ Some TaskEnded)
    -- a task lives in the finish where it lives itself: with none of its own open, its close is refused by 14
    × (refused_with 8 (Spawn 0 ∷ []) (Close 0) ≡ Some NoFinishOpen)
    -- task 1 lives in the finish that task 0 opened, and no step is free
    × (refused_with 12 (Open 0 ∷ Spawn 0 ∷ []) (Close 0) ≡ Some FinishNotEmpty)
    × (refused_with 12 (Open 0 ∷ Spawn 0 ∷ End 1 ∷ []) (Close 0) ≡ Some NoStepFree)
    × (refused_with 16 (Open 0 ∷ Spawn 0 ∷ End 1 ∷ []) (Close 0) ≡ None)
    × (refused_with 4 (Open 0 ∷ []) (End 0) ≡ Some FinishOpen)
    × (refused_with 8 (Open 0 ∷ Close 0 ∷ []) (End 0) ≡ None)

-- what a call answers after others
abbrev pub answered_after : List OrderCall → OrderCall → Made
answered_after cs c = answer_of (after_calls (emptied 9) cs) c

-- steps are numbered as they are made, of a spawn the child's first; an end answers the step that the task is on
-- a task that has ended stays on that step; one that is not held is on step 0
abbrev pub AnswersShown : Type 0
AnswersShown =
    (answered_after [] (Spawn 0) ≡ Spawned 1 2)
    × (answered_after (Spawn 0 ∷ []) (Open 1) ≡ Next 3)
    × (answered_after (Spawn 0 ∷ Open 1 ∷ []) (Close 1) ≡ Next 4)
    × (answered_after (Spawn 0 ∷ Open 1 ∷ Close 1 ∷ []) (End 1) ≡ Last 4)
    × (answered_after (Spawn 0 ∷ Open 1 ∷ Close 1 ∷ []) (End 0) ≡ Last 2)
    × (stage_of ((after_calls (emptied 9) (Spawn 0 ∷ [])).task 1) ≡ Running)
    × (stage_of ((after_calls (emptied 9) (Spawn 0 ∷ End 1 ∷ [])).task 1) ≡ Ended)
    × (stage_of ((after_calls (emptied 9) []).task 1) ≡ Ended)
    × (((after_calls (emptied 9) (Spawn 0 ∷ End 1 ∷ [])).task 1).current ≡ 1)
    × (((after_calls (emptied 9) []).task 1).current ≡ 0)

-- the number of each fault
abbrev pub NumbersShown : Type 0
NumbersShown =
    (number_of TaskEnded ≡ 13) × (number_of NoFinishOpen ≡ 14) × (number_of FinishNotEmpty ≡ 15) × (number_of FinishOpen ≡ 16)
    × (number_of NoStepFree ≡ 17)

-- how many links are climbed from two steps of a keeper that may hold ten, after calls
abbrev pub links_after : List OrderCall → ℕ → ℕ → ℕ
links_after cs a b = (relation_in (after_calls (emptied 10) cs) (tree_after 10 cs).step a b).links

-- a spawn, and another in a finish
abbrev pub two_spawns : List OrderCall
two_spawns = Spawn 0 ∷ Open 0 ∷ Spawn 0 ∷ []

-- the labels of steps 1, 2 and 4 are 1.0, 2 and 4.1.0; step 6 is not held
abbrev pub LinksShown : Type 0
LinksShown = (links_after two_spawns 1 4 ≡ 5) × (links_after two_spawns 1 2 ≡ 3) × (links_after two_spawns 4 6 ≡ 0)

-- two finishes, one in the other, and one after the other
abbrev pub nested : List OrderCall
nested = Open 0 ∷ Open 0 ∷ Close 0 ∷ Close 0 ∷ []

abbrev pub in_turn : List OrderCall
in_turn = Open 0 ∷ Close 0 ∷ Open 0 ∷ Close 0 ∷ []

-- both lead to one order, but their trees differ
abbrev pub TreesDiffer : Type 0
TreesDiffer =
    (after_calls (emptied 10) nested ≡ after_calls (emptied 10) in_turn)
    × (links_after nested 0 2 ≡ 4)
    × (links_after in_turn 0 2 ≡ 2)
