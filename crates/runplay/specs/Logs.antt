-- Lists of calls and of what they are answered, and how they are shown.
use Rattle.std.specs.Prelude.{ℕ, ◌+◌, cond, ◌==◌, List, [], ◌∷◌, ◌++◌, Option, Some, None, codes, decimal}
use Rattle.std.specs.Fmt.{option_append}
use Rattle.model.specs.declared.Cell.{Cell}
use Rattle.model.specs.declared.Call.{Call}
use Rattle.model.specs.declared.Call.TheVariants.{Feed, Seal}
use Rattle.model.specs.Shown.{cell_text, event_shown}
use Rattle.run.specs.declared.log.Asked.{Asked}
use Rattle.run.specs.declared.log.Reply.{Reply}
use Rattle.run.specs.Shown.{reply_shown}
use Rattle.runplay.specs.declared.log.Log.{Log}
use Rattle.runplay.specs.declared.scenario.Scenario.{Scenario}
use Rattle.runplay.specs.Rooms.{room_text}

-- a call that is not yet made
abbrev pub unmade : Call Cell → Asked
unmade c = record { call = c; reply = None }

-- what stands ahead of the item at a place of a row: nothing ahead of the first
abbrev pub lead_at : ℕ → List ℕ → List ℕ
lead_at place between = cond (place == 0) [] between

module _ {X : Type 0} (text : X → Option (List ℕ)) (between : List ℕ) where
  -- the texts of items in a row, the first of which has this place
  abbrev pub row_from : ℕ → List X → Option (List ℕ)
  row_from place [] = Some []
  row_from place (x ∷ xs) = option_append (option_append (Some (lead_at place between)) (text x)) (row_from (place + 1) xs)

  abbrev pub row_shown : List X → Option (List ℕ)
  row_shown xs = row_from 0 xs

-- `spawn 0 1`, or `seal 7`
abbrev pub call_shown : Call Cell → Option (List ℕ)
call_shown (Feed e) = event_shown (λ c. Some (cell_text c)) e
call_shown (Seal j) = Some (codes "seal " ++ decimal j)

-- what a call is answered, or that it is not made
abbrev pub told_shown : Option Reply → Option (List ℕ)
told_shown None = Some (codes "not made")
told_shown (Some r) = reply_shown r

-- `spawn 0 1, open 0`
abbrev pub calls_shown : List (Call Cell) → Option (List ℕ)
calls_shown cs = row_shown call_shown (codes ", ") cs

-- `taken; refused 17 layer order place 1`
abbrev pub log_shown : Log → Option (List ℕ)
log_shown log = row_shown (λ a. told_shown a.reply) (codes "; ") log.asked.items

-- `keeper 8, cells 8, names 8, events 100: spawn 0 1, open 0`
abbrev pub scenario_shown : Scenario → Option (List ℕ)
scenario_shown s = option_append (Some (room_text s.room)) (option_append (Some (codes ": ")) (calls_shown s.calls.now))
