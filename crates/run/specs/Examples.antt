-- Examples, by computation: what a log tells, the numbers and the layers of faults, and words.
use Rattle.std.specs.Prelude.{◌≡◌, List, [], ◌∷◌, map, Some, None, codes}
use Rattle.model.specs.declared.Cell.{Cell}
use Rattle.model.specs.declared.Race.{Race}
use Rattle.model.specs.declared.RaceKind.TheVariants.{WriteRead}
use Rattle.model.specs.declared.Layer.TheVariants as layer
use Rattle.model.specs.declared.Event.TheVariants.{Spawn, Read}
use Rattle.model.specs.declared.Call.TheVariants.{Feed, Seal}
use Rattle.model.specs.Runs.{took, stopped, turned_away, gave_verdict}
use Rattle.order.specs.declared.fault.OrderFault.TheVariants.{TaskEnded, NoFinishOpen, FinishNotEmpty, FinishOpen, NoStepFree}
use Rattle.cells.specs.declared.fault.CellFault.TheVariants.{NoRoom}
use Rattle.run.specs.declared.fault.RunFault.{RunFault}
use Rattle.run.specs.declared.fault.RunFault.TheVariants.{TooLarge, UnknownTask, NameTaken, NoName, Full, Sealed, OtherJob, Order, Cells}
use Rattle.run.specs.declared.run.Answer.TheVariants.{Taken, Stopped}
use Rattle.run.specs.declared.log.Reply.TheVariants.{Answered, Sealed as SealedBy, Refused}
use Rattle.run.specs.declared.log.Asked.{Asked}
use Rattle.run.specs.declared.verdict.Verdict.{Verdict}
use Rattle.run.specs.Faults.{number_of, layer_of}
use Rattle.run.specs.Replays.{calls_in, replies_in, taken_in}
use Rattle.run.specs.Shown.{word_of, word_text}

abbrev pub cell : Cell
cell = record { mailbox = 1; block = 5 }

abbrev pub race : Race Cell
race = record { kind = WriteRead; cell = cell; first = 1; second = 2 }

abbrev pub raced : Verdict
raced = record { job = 7; race = Some race; events = 3 }

-- events that are taken and that meet a race, seals, and a call that is not made
abbrev pub log : List Asked
log =
    record { call = Feed (Spawn 0 1); reply = Some (Answered (Taken None)) }
    ∷ record { call = Feed (Read 0 cell); reply = Some (Answered (Taken (Some race))) }
    ∷ record { call = Feed (Read 1 cell); reply = Some (Answered (Stopped race)) }
    ∷ record { call = Seal 8; reply = Some (Refused (record { fault = OtherJob; place = 2 })) }
    ∷ record { call = Seal 7; reply = Some (SealedBy raced) }
    ∷ record { call = Seal 7; reply = None }
    ∷ []

pub record LogsShown : Type 0 where
  pub calls : calls_in log ≡ Seal 7 ∷ Seal 7 ∷ Seal 8 ∷ Feed (Read 1 cell) ∷ Feed (Read 0 cell) ∷ Feed (Spawn 0 1) ∷ []
  pub replies : replies_in log
      ≡ None ∷ Some (gave_verdict 7 (Some race) 3) ∷ Some (turned_away 12 2) ∷ Some (stopped race) ∷ Some (took (Some race)) ∷ Some (took None) ∷ []
  pub taken : taken_in log ≡ Read 0 cell ∷ Spawn 0 1 ∷ []

-- a run's own, the keeper's and the store's
abbrev pub faults : List RunFault
faults =
    TooLarge ∷ UnknownTask ∷ NameTaken ∷ NoName ∷ Full ∷ Sealed ∷ OtherJob
    ∷ Order TaskEnded ∷ Order NoFinishOpen ∷ Order FinishNotEmpty ∷ Order FinishOpen ∷ Order NoStepFree
    ∷ Cells NoRoom ∷ []

pub record FaultsShown : Type 0 where
  pub numbers : map number_of faults ≡ 6 ∷ 7 ∷ 8 ∷ 9 ∷ 10 ∷ 11 ∷ 12 ∷ 13 ∷ 14 ∷ 15 ∷ 16 ∷ 17 ∷ 18 ∷ []
  pub layers : map layer_of faults
      ≡ layer.Run ∷ layer.Run ∷ layer.Run ∷ layer.Run ∷ layer.Run ∷ layer.Run ∷ layer.Run
      ∷ layer.Order ∷ layer.Order ∷ layer.Order ∷ layer.Order ∷ layer.Order ∷ layer.Cells ∷ []

-- a verdict is clean exactly without a race
abbrev pub WordsShown : Type 0
WordsShown = (word_text (word_of (Some race)) ≡ codes "raced") × (word_text (word_of {A = Race Cell} None) ≡ codes "clean")
