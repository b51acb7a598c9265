-- What the race that a run names, or that it names none, says of every legal order of the events taken.
use Rattle.std.specs.Prelude.{◌≡◌, ℕ, suc, ◌↔◌, List, length, map, Option, Some, None}
use Rattle.model.specs.declared.Cell.{Cell}
use Rattle.model.specs.declared.Race.{Race}
use Rattle.model.specs.declared.Stage.TheVariants.{Feeding}
use Rattle.model.specs.Past.{Past, behind}
use Rattle.model.specs.Legal.{Legal, Settled, Beside, arranged}
use Rattle.model.specs.Laws.{Clean, FirstConflict}
use Rattle.model.specs.Mailboxes.{mailbox_cells}
use Rattle.model.specs.Runs.{Opening, all_fed, each_took, replies, after_calls}
use Rattle.run.specs.declared.log.Asked.{Asked}
use Rattle.run.specs.Replays.{calls_in, replies_in, taken_in}

-- none is named exactly when each access follows the same write in every legal order, or none in every one
abbrev pub CleanSettled : Past Cell → Option (Race Cell) → Type 0
CleanSettled h m = (m ≡ None) ↔ Settled mailbox_cells h

-- a named race's later access is the last event taken, and all before it is clean
abbrev pub RacedLatest : Opening → Past Cell → Option (Race Cell) → Type 0
RacedLatest o h m = (r : Race Cell) → m ≡ Some r → (suc r.second ≡ length h) × Clean mailbox_cells o.limits (behind h r.second)

-- two legal orders put its accesses side by side, once each way round
abbrev pub RacedBeside : Past Cell → Option (Race Cell) → Type 0
RacedBeside h m = (r : Race Cell) → m ≡ Some r → Beside h r.first r.second

-- if none is named, every legal order has all the events, and a run of the same job and limits takes each with no race
abbrev pub CleanAnyOrder : Opening → Past Cell → Option (Race Cell) → Type 0
CleanAnyOrder o h m =
    m ≡ None → (p : List ℕ) → Legal h p
    → (length (arranged h p) ≡ length h)
    × (replies mailbox_cells o (all_fed (arranged h p)) ≡ each_took (arranged h p))
    × (after_calls mailbox_cells o (all_fed (arranged h p)) ≡ record { past = arranged h p; stage = Feeding })

-- the named race is the first conflict that nothing orders
abbrev pub FirstNamed : Past Cell → Option (Race Cell) → Type 0
FirstNamed h m = FirstConflict mailbox_cells h m

-- if h are the events that a clean run has taken, a log of calls that feed them in any legal order has each taken with no race,
-- and the run that they were made on names none either
abbrev pub TakenAgain : Past Cell → Option (Race Cell) → List Asked → List Asked → Option (Race Cell) → Type 0
TakenAgain h m before after n =
    m ≡ None → (p : List ℕ) → Legal h p → calls_in before ≡ all_fed (arranged h p)
    → (replies_in after ≡ map Some (each_took (arranged h p))) × (taken_in after ≡ arranged h p) × (n ≡ None)
