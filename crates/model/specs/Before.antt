-- Happens-before, as a relation and as a test, and serial order.
use Rattle.std.specs.Prelude.{◌≡◌, ℕ, suc, ◌<◌, Bool, false, cond, ◌&&◌, ◌||◌, T, List, [], ◌∷◌, ◌++◌, length, Some, ◌==◌, ◌≢◌}
use Rattle.model.specs.declared.Event.{Event}
use Rattle.model.specs.Lists.{any, flat, below, some_or}
use Rattle.model.specs.Past.{Past, at, behind, actor, child, makes, ends, home, same_finish, closes}

-- whether e, on the past h, closes a finish that waits for d: the end of a task that lives in that finish
abbrev pub awaited : {C : Type 0} → Past C → Event C → Event C → Bool
awaited h d e = some_or (λ f. ends (actor d) d && same_finish (home h (actor d)) f) false (closes h e)

-- the three rules: an event d of the past h is directly before e, the event after h,
-- if both are of one task, if d makes the task of e, or if e closes a finish that waits for d
abbrev pub leads : {C : Type 0} → Past C → Event C → Event C → Bool
leads h d e = actor d == actor e || (makes (actor e) d || awaited h d e)

-- happens before: the smallest transitive relation with the three rules
pub data HappensBefore {C : Type 0} (h : Past C) : ℕ → ℕ → Type 0 where
  direct : (i j : ℕ) (d e : Event C) → i < j → at h i ≡ Some d → at h j ≡ Some e → T (leads (behind h j) d e) → HappensBefore h i j
  through : (i j k : ℕ) → HappensBefore h i j → HappensBefore h j k → HappensBefore h i k

-- the same, as a test: i is before the latest event if it leads to it, or is before an event that does
abbrev pub before : {C : Type 0} → Past C → ℕ → ℕ → Bool
before [] i j = false
before (e ∷ h) i j =
    cond (j == length h)
    (any (λ k. some_or (λ d. leads h d e) false (at h k) && (i == k || before h i k)) (below (length h)))
    (before h i j)

-- no event of the task t stands between two places
abbrev pub NoneBetween : {C : Type 0} → Past C → ℕ → ℕ → ℕ → Type 0
NoneBetween {C} h t i j = (p : ℕ) (d : Event C) → i < p → p < j → at h p ≡ Some d → actor d ≢ t

-- the three rules word for word, which say nothing of places but for a task's own events:
-- an event is before its task's next one, a spawn before every event of the child, a task's end before the close of the finish it lives in
pub data Told {C : Type 0} (h : Past C) : ℕ → ℕ → Type 0 where
  to_next : (i j : ℕ) (d e : Event C) → i < j → at h i ≡ Some d → at h j ≡ Some e
      → actor d ≡ actor e → NoneBetween h (actor d) i j → Told h i j
  to_child : (i j : ℕ) (d e : Event C) → at h i ≡ Some d → at h j ≡ Some e → T (makes (actor e) d) → Told h i j
  to_close : (i j : ℕ) (d e : Event C) → at h i ≡ Some d → at h j ≡ Some e
      → T (ends (actor d) d) → closes (behind h j) e ≡ Some (home h (actor d)) → Told h i j
  through : (i j k : ℕ) → Told h i j → Told h j k → Told h i k

-- the places of a task's events, the earliest first
abbrev pub of_task : {C : Type 0} → ℕ → Past C → List ℕ
of_task t [] = []
of_task t (e ∷ h) = of_task t h ++ cond (t == actor e) (length h ∷ []) []

-- a task's events in turn, with the whole of each spawned task right after its spawn; n bounds how deep the spawns nest
abbrev pub written : {C : Type 0} → ℕ → Past C → ℕ → List ℕ
written ℕ.zero h t = []
written (suc n) h t = flat (λ i. i ∷ some_or (λ e. some_or (written n h) [] (child e)) [] (at h i)) (of_task t h)

-- serial order: task 0 written out; the bound is never met (`serial_once` of `Link`: each place is in it once)
abbrev pub serial : {C : Type 0} → Past C → List ℕ
serial h = written (suc (length h)) h 0
