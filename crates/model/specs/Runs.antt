-- Runs, by the calls made on them: what each call is answered, where the run then stands, and the laws for every list of calls.
use Rattle.std.specs.Prelude.{◌≡◌, ℕ, Bool, true, false, cond, not, T, ◌⊎◌, ◌↔◌, List, [], ◌∷◌, length, Some, None, Option, ◌==◌, ◌≢◌}
use Rattle.model.specs.declared.Event.{Event}
use Rattle.model.specs.declared.Race.{Race}
use Rattle.model.specs.declared.Stage.{Stage}
use Rattle.model.specs.declared.Stage.TheVariants.{Feeding, Raced, Sealed}
use Rattle.model.specs.declared.Call.{Call}
use Rattle.model.specs.declared.Call.TheVariants.{Feed, Seal}
use Rattle.model.specs.Past.{Past}
use Rattle.model.specs.Accesses.{CellKind}
use Rattle.model.specs.Rules.{Limits, Answer, taken, refused, judge}
use Rattle.model.specs.Legal.{Legal, Settled, arranged}
use Rattle.model.specs.Laws.{Outcome, Real, FirstConflict}

-- what a run is opened with
pub record Opening : Type 0 where
  pub job : ℕ
  pub limits : Limits

-- where a run stands: the events it has taken, and its stage
pub record Standing (C : Type 0) : Type 0 where
  pub past : Past C
  pub stage : Stage C

-- what a call is answered: an event is taken, with its race, or meets a run that has stopped at a race;
-- a call is turned away, with the refusal's number and its place, the count of events taken;
-- a seal gives the verdict, with the job, the race and the count of events taken
pub data Reply (C : Type 0) : Type 0 where
  took : Option (Race C) → Reply C
  stopped : Race C → Reply C
  turned_away : ℕ → ℕ → Reply C
  gave_verdict : ℕ → Option (Race C) → ℕ → Reply C

-- whether a run is sealed
abbrev pub is_sealed : {C : Type 0} → Stage C → Bool
is_sealed (Sealed o) = true
is_sealed s = false

-- the race that a run names, sealed or not
abbrev pub named : {C : Type 0} → Stage C → Option (Race C)
named Feeding = None
named (Raced r) = Some r
named (Sealed o) = o

-- an answer to an event, as a reply at the place n
abbrev pub answer_reply : {C : Type 0} → ℕ → Answer C → Reply C
answer_reply n (taken r) = took r
answer_reply n (refused m) = turned_away m n

-- the reply to a seal with a token of the job j, by a run of the job `own` that names the race r
abbrev pub seal_reply : {C : Type 0} → ℕ → ℕ → Option (Race C) → ℕ → Reply C
seal_reply own n r j = cond (j == own) (gave_verdict own r n) (turned_away 12 n)

-- what a call is answered, by the stage and the call together: `says` judges an event, `own` is the run's job, and n events are taken
abbrev pub reply_by : {C : Type 0} → (Event C → Answer C) → ℕ → ℕ → Stage C → Call C → Reply C
reply_by says own n Feeding (Feed e) = answer_reply n (says e)
reply_by says own n Feeding (Seal j) = seal_reply own n None j
reply_by says own n (Raced r) (Feed e) = stopped r
reply_by says own n (Raced r) (Seal j) = seal_reply own n (Some r) j
reply_by says own n (Sealed r) c = turned_away 11 n

-- the job of the token that a seal hands back: its own, if it is turned away
abbrev pub handed_back : {C : Type 0} → ℕ → Reply C → Option ℕ
handed_back j (turned_away n p) = Some j
handed_back j r = None

-- the stage after an event was taken, with its race
abbrev pub stage_with : {C : Type 0} → Option (Race C) → Stage C
stage_with None = Feeding
stage_with (Some r) = Raced r

-- where a run stands after a call, by what the call was answered
abbrev pub moved_by : {C : Type 0} → Standing C → Call C → Reply C → Standing C
moved_by s (Feed e) (took r) = record { past = e ∷ s.past; stage = stage_with r }
moved_by s (Seal j) (gave_verdict i r n) = record s { stage = Sealed r }
moved_by s c r = s

-- the events of a past, fed one after the other
abbrev pub all_fed : {C : Type 0} → Past C → List (Call C)
all_fed [] = []
all_fed (e ∷ h) = Feed e ∷ all_fed h

-- the answers if each of them is taken with no race
abbrev pub each_took : {C : Type 0} → Past C → List (Reply C)
each_took [] = []
each_took (e ∷ h) = took None ∷ each_took h

module _ {C : Type 0} (k : CellKind C) (o : Opening) where
  -- what a call is answered where the run stands
  abbrev pub answer_to : Standing C → Call C → Reply C
  answer_to s c = reply_by (judge k o.limits s.past) o.job (length s.past) s.stage c

  -- where a run stands after a list of calls, the latest first
  abbrev pub after_calls : List (Call C) → Standing C
  after_calls [] = record { past = []; stage = Feeding }
  after_calls (c ∷ cs) = let s = after_calls cs in moved_by s c (answer_to s c)

  -- the answers to a list of calls, both the latest first
  abbrev pub replies : List (Call C) → List (Reply C)
  replies [] = []
  replies (c ∷ cs) = answer_to (after_calls cs) c ∷ replies cs

  -- the events that a list of calls has taken
  abbrev pub past_of : List (Call C) → Past C
  past_of cs = (after_calls cs).past

  -- the race that is then named
  abbrev pub race_named : List (Call C) → Option (Race C)
  race_named cs = named (after_calls cs).stage

  -- what an event comes to where the run stands:
  -- a sealed run refuses it by 11, a raced one has stopped, and a feeding one answers what the rules say
  abbrev pub EventAnswered : Standing C → Event C → Reply C → Type 0
  EventAnswered s e r =
      (T (is_sealed s.stage) × (r ≡ turned_away 11 (length s.past)))
      ⊎ (((q : Race C) × (s.stage ≡ Raced q) × (r ≡ stopped q))
      ⊎ ((s.stage ≡ Feeding) × (r ≡ answer_reply (length s.past) (judge k o.limits s.past e))))

  -- what a seal with a token of the job j comes to:
  -- a sealed run refuses it by 11, one of another job by 12, and both hand the token back; else it gives the verdict and spends it
  abbrev pub SealAnswered : Standing C → ℕ → Reply C → Type 0
  SealAnswered s j r =
      (T (is_sealed s.stage) × (r ≡ turned_away 11 (length s.past)) × (handed_back j r ≡ Some j))
      ⊎ ((T (not (is_sealed s.stage)) × (j ≢ o.job) × (r ≡ turned_away 12 (length s.past)) × (handed_back j r ≡ Some j))
      ⊎ (T (not (is_sealed s.stage)) × (j ≡ o.job) × (r ≡ gave_verdict o.job (named s.stage) (length s.past)) × (handed_back j r ≡ None)))

  -- the laws for a list of calls, refused and stopped ones included: laws 1 to 4 of what it leaves behind, and what a next call does
  pub record Upheld (cs : List (Call C)) : Type 0 where
    -- every event in the past was taken, and the race that is named is the latest one's
    pub lawful : Outcome k o.limits (past_of cs) (race_named cs)
    -- law 1
    pub clean_settled : (race_named cs ≡ None) ↔ Settled k (past_of cs)
    -- law 2
    pub race_real : (r : Race C) → race_named cs ≡ Some r → Real k o.limits (past_of cs) r
    -- law 3, on a newly opened run with the same job and limits
    pub any_order : race_named cs ≡ None → (p : List ℕ) → Legal (past_of cs) p
        → (length (arranged (past_of cs) p) ≡ length (past_of cs))
        × (replies (all_fed (arranged (past_of cs) p)) ≡ each_took (arranged (past_of cs) p))
        × (after_calls (all_fed (arranged (past_of cs) p)) ≡ record { past = arranged (past_of cs) p; stage = Feeding })
    -- law 4
    pub first_named : FirstConflict k (past_of cs) (race_named cs)
    -- the next call is answered by the stage
    pub event_answer : (e : Event C) → EventAnswered (after_calls cs) e (answer_to (after_calls cs) (Feed e))
    pub seal_answer : (j : ℕ) → SealAnswered (after_calls cs) j (answer_to (after_calls cs) (Seal j))
    -- an event that is taken joins the past, and its race is the one that is then named
    pub taken_tells : (e : Event C) (r : Option (Race C)) → answer_to (after_calls cs) (Feed e) ≡ took r
        → (past_of (Feed e ∷ cs) ≡ e ∷ past_of cs) × (race_named (Feed e ∷ cs) ≡ r)
    -- a call that is turned away changes nothing, and its place is the count of events taken
    pub unchanged : (c : Call C) (n p : ℕ) → answer_to (after_calls cs) c ≡ turned_away n p
        → (after_calls (c ∷ cs) ≡ after_calls cs) × (p ≡ length (past_of cs))
    -- a call after a race is told that race, and changes nothing
    pub after_race : (c : Call C) (r : Race C) → answer_to (after_calls cs) c ≡ stopped r
        → (after_calls (c ∷ cs) ≡ after_calls cs) × (race_named cs ≡ Some r)
    -- a seal keeps the past and the race, and its verdict tells them
    pub sealed_tells : (j i n : ℕ) (m : Option (Race C)) → answer_to (after_calls cs) (Seal j) ≡ gave_verdict i m n
        → (after_calls (Seal j ∷ cs) ≡ record { past = past_of cs; stage = Sealed (race_named cs) })
        × (j ≡ o.job) × (i ≡ o.job) × (m ≡ race_named cs) × (n ≡ length (past_of cs))
