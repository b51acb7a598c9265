-- A run that calls have led to: each of its calls answers what the rules say after them.
use Rattle.std.specs.Prelude.{◌≡◌, ℕ, List, ◌∷◌, length}
use Rattle.model.specs.declared.Cell.{Cell}
use Rattle.model.specs.declared.History.{History}
use Rattle.model.specs.declared.Stage.{Stage}
use Rattle.model.specs.declared.Call.{Call}
use Rattle.model.specs.Mailboxes.{mailbox_cells}
use Rattle.model.specs.Orders.{Order}
use Rattle.model.specs.Parts.{Keyed}
use Rattle.model.specs.Runs.{Opening, Reply, answer_to, after_calls, past_of}
use Rattle.model.specs.Holding.{held_after}
use Rattle.run.specs.declared.run.Run.{Run}
use Rattle.run.specs.Runs.{opened_with, held_in}

module _ {K S N : Type 0} (order : K → Order) (cells : S → Keyed Cell History) (names : N → Keyed ℕ ℕ) where
  -- a run was opened with o, and stands where the calls cs lead, the latest first
  pub record Led (o : Opening) (cs : List (Call Cell)) (r : Run K S N) : Type 0 where
    pub opened : opened_with order cells names r ≡ o
    pub holds : held_in order cells names r ≡ held_after mailbox_cells o cs

  -- whatever calls have led to the run, a call is answered what the rules say after them, and leads on
  abbrev pub Lawful : Run K S N → Call Cell → Reply Cell → Run K S N → Type 0
  Lawful was c reply is =
      (o : Opening) (cs : List (Call Cell)) → Led o cs was
      → (reply ≡ answer_to mailbox_cells o (after_calls mailbox_cells o cs) c) × Led o (c ∷ cs) is

  -- whatever calls have led to the run, this is the stage that it is in after them, and so many events are taken

  abbrev pub StageTold : Run K S N → Stage Cell → Type 0
  StageTold r g = (o : Opening) (cs : List (Call Cell)) → Led o cs r → g ≡ (after_calls mailbox_cells o cs).stage

  abbrev pub CountTold : Run K S N → ℕ → Type 0
  CountTold r n = (o : Opening) (cs : List (Call Cell)) → Led o cs r → n ≡ length (past_of mailbox_cells o cs)
