-- A past: the events that were taken so far, and what they say of tasks and finishes.
use Rattle.std.specs.Prelude.{ℕ, suc, Bool, true, false, cond, not, ◌&&◌, List, [], ◌∷◌, length, Some, None, Option, ◌==◌, nat_eq}
use Rattle.model.specs.declared.Event.{Event}
use Rattle.model.specs.declared.Event.TheVariants.{Spawn, End, Open, Close, Read, Write}
use Rattle.model.specs.Lists.{any, rest, some_or}

-- a list of events, the latest first; most laws speak of those whose events a run has taken
abbrev pub Past : Type 0 → Type 0
Past C = List (Event C)

-- An event's place is how many events stand behind it in the list, so the first event that was taken has place 0.

-- the event at a place
abbrev pub at : {C : Type 0} → Past C → ℕ → Option (Event C)
at [] i = None
at (e ∷ h) i = cond (i == length h) (Some e) (at h i)

-- the events that were taken before the one at a place
abbrev pub behind : {C : Type 0} → Past C → ℕ → Past C
behind [] i = []
behind (e ∷ h) i = cond (i == length h) h (behind h i)

-- the task that does an event
abbrev pub actor : {C : Type 0} → Event C → ℕ
actor (Spawn t u) = t
actor (End t) = t
actor (Open t) = t
actor (Close t) = t
actor (Read t c) = t
actor (Write t c) = t

-- the task that an event makes
abbrev pub child : {C : Type 0} → Event C → Option ℕ
child (Spawn t u) = Some u
child e = None

-- whether an event makes the task u
abbrev pub makes : {C : Type 0} → ℕ → Event C → Bool
makes u e = some_or (nat_eq u) false (child e)

-- whether an event ends the task u
abbrev pub ends : {C : Type 0} → ℕ → Event C → Bool
ends u (End t) = u == t
ends u e = false

-- whether the task u was made
abbrev pub made : {C : Type 0} → Past C → ℕ → Bool
made h u = any (makes u) h

-- whether the task u has ended
abbrev pub ended : {C : Type 0} → Past C → ℕ → Bool
ended h u = any (ends u) h

-- the tasks that were made, the latest first
abbrev pub spawned_tasks : {C : Type 0} → Past C → List ℕ
spawned_tasks [] = []
spawned_tasks (e ∷ h) = some_or (λ u. u ∷ spawned_tasks h) (spawned_tasks h) (child e)

-- a finish: the outer one, which never closes, or one that a task opened, told by how many that task had opened before
pub data Finish : Type 0 where
  outer : Finish
  opened_by : ℕ → ℕ → Finish

-- a test for the same finish
abbrev pub same_finish : Finish → Finish → Bool
same_finish outer outer = true
same_finish (opened_by t n) (opened_by u m) = t == u && n == m
same_finish f g = false

-- whether an event opens a finish
abbrev pub is_open : {C : Type 0} → Event C → Bool
is_open (Open t) = true
is_open e = false

-- how many finishes a task has opened
abbrev pub opens : {C : Type 0} → Past C → ℕ → ℕ
opens [] t = 0
opens (e ∷ h) t = cond (is_open e && t == actor e) (suc (opens h t)) (opens h t)

-- the finishes of its own that t has open after an event, by those that it has open before; n is how many it had opened by then
abbrev pub own_after : {C : Type 0} → Event C → ℕ → ℕ → List ℕ → List ℕ
own_after (Open a) t n own = cond (t == a) (n ∷ own) own
own_after (Close a) t n own = cond (t == a) (rest own) own
own_after e t n own = own

-- the finishes of its own that a task has open, the innermost first
abbrev pub own : {C : Type 0} → Past C → ℕ → List ℕ
own [] t = []
own (e ∷ h) t = own_after e t (opens h t) (own h t)

-- the innermost finish of t: the first of its own, or else the one that it lives in
abbrev pub innermost_of : ℕ → List ℕ → Finish → Finish
innermost_of t [] home = home
innermost_of t (n ∷ own) home = opened_by t n

-- the finish that a task lives in: the innermost one for its spawner, at the spawn; for task 0 the outer one
abbrev pub home : {C : Type 0} → Past C → ℕ → Finish
home [] u = outer
home (e ∷ h) u = cond (makes u e) (innermost_of (actor e) (own h (actor e)) (home h (actor e))) (home h u)

-- the innermost finish of a task on a past
abbrev pub innermost : {C : Type 0} → Past C → ℕ → Finish
innermost h t = innermost_of t (own h t) (home h t)

-- whether a spawned task lives in the finish f: it does so until it ends
abbrev pub lived_in : {C : Type 0} → Past C → Finish → Bool
lived_in h f = any (λ u. not (ended h u) && same_finish (home h u) f) (spawned_tasks h)

-- the finish that the event e closes, on the past h
abbrev pub closes : {C : Type 0} → Past C → Event C → Option Finish
closes h (Close t) = Some (innermost h t)
closes h e = None
