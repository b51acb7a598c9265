-- Lists of calls, with what each was answered.
use Rattle.std.specs.Prelude.{◌≡◌, ℕ, List, [], ◌∷◌, ◌++◌, map, reverse, Option, Some, None}
use Rattle.model.specs.declared.Cell.{Cell}
use Rattle.model.specs.declared.History.{History}
use Rattle.model.specs.declared.Call.{Call}
use Rattle.model.specs.declared.Call.TheVariants.{Feed}
use Rattle.model.specs.Past.{Past}
use Rattle.model.specs.Mailboxes.{mailbox_cells}
use Rattle.model.specs.Orders.{Order}
use Rattle.model.specs.Parts.{Keyed}
use Rattle.model.specs.declared.Stage.{Stage}
use Rattle.model.specs.Runs.{Opening, Reply, took, after_calls, replies}
use Rattle.run.specs.declared.log.Reply.{Reply as OwnReply}
use Rattle.run.specs.declared.log.Asked.{Asked}
use Rattle.run.specs.declared.run.Run.{Run}
use Rattle.run.specs.Runs.{reply_of}
use Rattle.run.specs.Lawful.{Led}

-- a reply in the words of the rules, if there is one
abbrev pub replied : Option OwnReply → Option (Reply Cell)
replied None = None
replied (Some r) = Some (reply_of r)

-- the calls, and the replies, the latest first
abbrev pub calls_in : List Asked → List (Call Cell)
calls_in log = map (λ a. a.call) (reverse log)

abbrev pub replies_in : List Asked → List (Option (Reply Cell))
replies_in log = map (λ a. replied a.reply) (reverse log)

-- the event of a call, ahead of others, if the reply is that it was taken
abbrev pub and_taken : Call Cell → Option (Reply Cell) → Past Cell → Past Cell
and_taken (Feed e) (Some (took r)) h = e ∷ h
and_taken c o h = h

abbrev pub taken_among : List Asked → Past Cell
taken_among [] = []
taken_among (a ∷ log) = and_taken a.call (replied a.reply) (taken_among log)

-- the events that were taken, the latest first
abbrev pub taken_in : List Asked → Past Cell
taken_in log = taken_among (reverse log)

-- the calls cs were made on a new run, a log has what each was answered, and the run is then in the stage g
pub record Replayed (o : Opening) (cs : List (Call Cell)) (log : List Asked) (g : Stage Cell) : Type 0 where
  pub asked : calls_in log ≡ cs
  pub answered : replies_in log ≡ map Some (replies mailbox_cells o cs)
  pub stage : g ≡ (after_calls mailbox_cells o cs).stage

module _ {K S N : Type 0} (order : K → Order) (cells : S → Keyed Cell History) (names : N → Keyed ℕ ℕ) where
  -- the calls of a log were made on a run, and each is answered what the rules say, whatever calls had led to the run
  abbrev pub ReplayedOn : Run K S N → List Asked → List Asked → Run K S N → Type 0
  ReplayedOn was before after is =
      (o : Opening) (cs : List (Call Cell)) → Led order cells names o cs was
      → (calls_in after ≡ calls_in before)
      × (replies_in after ++ map Some (replies mailbox_cells o cs) ≡ map Some (replies mailbox_cells o (calls_in before ++ cs)))
      × Led order cells names o (calls_in before ++ cs) is
