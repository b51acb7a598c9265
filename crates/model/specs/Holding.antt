-- A run that holds its parts and its stage, and beside these only what it was opened with, over lists of calls.
use Rattle.std.specs.Prelude.{◌≡◌, List, [], ◌∷◌, length, Some, None}
use Rattle.model.specs.declared.Stage.{Stage}
use Rattle.model.specs.declared.Stage.TheVariants.{Feeding, Raced, Sealed}
use Rattle.model.specs.declared.Call.{Call}
use Rattle.model.specs.declared.Call.TheVariants.{Feed, Seal}
use Rattle.model.specs.Accesses.{CellKind}
use Rattle.model.specs.Runs.{Opening, Reply, took, gave_verdict, reply_by, after_calls, replies, past_of}
use Rattle.model.specs.Parts.{Parts, emptied_parts, parts_of, judged, stepped, counted}

-- what a run holds
pub record Holding (C : Type 0) : Type 0 where
  pub parts : Parts C
  pub stage : Stage C

module _ {C : Type 0} (k : CellKind C) where
  -- what a run holds after a call, by what the call was answered; of the access that makes its race it keeps no mark
  abbrev pub held_by : Holding C → Call C → Reply C → Holding C
  held_by s (Feed e) (took None) = record s { parts = stepped k s.parts e }
  held_by s (Feed e) (took (Some r)) = record { parts = counted s.parts; stage = Raced r }
  held_by s (Seal j) (gave_verdict i r n) = record s { stage = Sealed r }
  held_by s c r = s

module _ {C : Type 0} (k : CellKind C) (o : Opening) where
  -- what a call is answered from what the run holds
  abbrev pub held_answer : Holding C → Call C → Reply C
  held_answer s c = reply_by (judged k o.limits.events s.parts) o.job s.parts.count s.stage c

  -- what a run holds after a list of calls, the latest first
  abbrev pub held_after : List (Call C) → Holding C
  held_after [] = record { parts = emptied_parts o.limits; stage = Feeding }
  held_after (c ∷ cs) = let s = held_after cs in held_by k s c (held_answer s c)

  -- the answers to a list of calls, both the latest first
  abbrev pub held_replies : List (Call C) → List (Reply C)
  held_replies [] = []
  held_replies (c ∷ cs) = held_answer (held_after cs) c ∷ held_replies cs

  -- law 8, for a list of calls: such a run answers what the rules say, and its stage and its count are those of the rules;
  -- while it is fed it holds the parts of its past
  pub record AnsweredByParts (cs : List (Call C)) : Type 0 where
    pub replies_are : held_replies cs ≡ replies k o cs
    pub stage_is : (held_after cs).stage ≡ (after_calls k o cs).stage
    pub count_is : (held_after cs).parts.count ≡ length (past_of k o cs)
    pub parts_are : (held_after cs).stage ≡ Feeding → (held_after cs).parts ≡ parts_of k o.limits (past_of k o cs)
