-- A run by its parts: what it holds of its past is an order, the histories of cells, the numbers of tasks and a count.
-- What the rules say of a clean past can be said from these alone, and after a taken event they are those of the longer past.
use Rattle.std.specs.Prelude.{◌≡◌, ℕ, ◌+◌, ◌<◌, ◌≤◌, Bool, true, false, cond, not, [], ◌∷◌, length, Some, None, Option, ◌==◌, nat_eq, nat_le}
use Rattle.model.specs.declared.Event.{Event}
use Rattle.model.specs.declared.Event.TheVariants.{Spawn, End, Open, Close, Read, Write}
use Rattle.model.specs.declared.RaceKind.{RaceKind}
use Rattle.model.specs.declared.RaceKind.TheVariants.{WriteRead, WriteWrite, ReadWrite}
use Rattle.model.specs.declared.Race.{Race}
use Rattle.model.specs.declared.Mark.{Mark}
use Rattle.model.specs.declared.History.{History}
use Rattle.model.specs.Lists.{some_or, head_or}
use Rattle.model.specs.Past.{Past, actor, made, spawned_tasks}
use Rattle.model.specs.Accesses.{CellKind}
use Rattle.model.specs.Cells.{last_write, left_read, right_read, cell_held, cells_held}
use Rattle.model.specs.Rules.{Limits, Answer, taken, refused, refusal, numbers_fit, judge}
use Rattle.model.specs.Laws.{Clean}
use Rattle.model.specs.Orders.{Order, emptied, spawned, opened, closed, done, at_or_after, gone, few, has_own, lived}
use Rattle.model.specs.Reached.{Reached}
use Rattle.model.specs.Readers.{moves_left, moves_right}
use Rattle.model.specs.Link.{order_of, number, step_now, step_at}

-- what a keyed table means: how many keys it may hold, how many it holds, and what it has for each
pub record Keyed (K V : Type 0) : Type 0 where
  pub limit : ℕ
  pub count : ℕ
  pub find : K → Option V

-- a table that holds nothing
abbrev pub none_held : {K V : Type 0} → ℕ → Keyed K V
none_held n = record { limit = n; count = 0; find = λ key. None }

-- a key is not held, and there is no room for one more
abbrev pub no_room : {K V : Type 0} → Keyed K V → K → Bool
no_room t key = some_or (λ v. false) (nat_le t.limit t.count) (t.find key)

-- a table with one more key, or one key's value changed
abbrev pub with_key : {K V : Type 0} → (K → K → Bool) → Keyed K V → K → V → Keyed K V
with_key same t key v =
    record t { count = t.count + some_or (λ x. 0) 1 (t.find key); find = λ j. cond (same key j) (Some v) (t.find j) }

-- the order of its steps, the histories of its cells, the numbers of its spawned tasks, and how many events it has taken
pub record Parts (C : Type 0) : Type 0 where
  pub order : Order
  pub cells : Keyed C History
  pub names : Keyed ℕ ℕ
  pub count : ℕ

-- the history of a cell that was never touched
abbrev pub blank : History
blank = record { write = None; left = None; right = None }

-- the mark of the access at a place
abbrev pub mark_at : {C : Type 0} → Past C → Option ℕ → Option Mark
mark_at h None = None
mark_at h (Some i) = Some (record { step = step_at h i; place = i })

-- the keeper's number of a task
abbrev pub task_number : {C : Type 0} → Parts C → ℕ → Option ℕ
task_number p t = cond (t == 0) (Some 0) (p.names.find t)

-- what a table says of a cell: its history, or a blank one
abbrev pub history_in : {C : Type 0} → Keyed C History → C → History
history_in t c = some_or (λ x. x) blank (t.find c)

-- the step s is that of a mark, or comes after it
abbrev pub after_mark : Order → ℕ → Mark → Bool
after_mark m s w = at_or_after m s w.step

-- the race of an access of c on the step s at the place n with a mark that s does not come after; or else what `other` says
abbrev pub race_on : {C : Type 0} → RaceKind → Order → ℕ → ℕ → C → Option Mark → Option (Race C) → Option (Race C)
race_on kind m s n c None other = other
race_on kind m s n c (Some w) other =
    cond (after_mark m s w) other (Some (record { kind = kind; cell = c; first = w.place; second = n }))

-- the race of a read by the task with number n
abbrev pub read_race : {C : Type 0} → Parts C → ℕ → C → Option (Race C)
read_race p n c = race_on WriteRead p.order (p.order.task n).current p.count c (history_in p.cells c).write None

-- the race of a write by the task with number n
abbrev pub write_race : {C : Type 0} → Parts C → ℕ → C → Option (Race C)
write_race p n c =
    let s : ℕ = (p.order.task n).current in
    let x : History = history_in p.cells c in
    race_on WriteWrite p.order s p.count c x.write
    (race_on ReadWrite p.order s p.count c x.left (race_on ReadWrite p.order s p.count c x.right None))

-- what is said to an access of c with the race that it makes, or none
abbrev pub judged_access : {C : Type 0} → Parts C → C → Option (Race C) → Answer C
judged_access p c None = refusal ((no_room p.cells c, 18) ∷ []) (taken None)
judged_access p c (Some r) = taken (Some r)

-- what is said to an event of the task with number n, by its kind
abbrev pub judged_kind : {C : Type 0} → Parts C → ℕ → Event C → Answer C
judged_kind p n (Spawn t u) =
    refusal
    ((some_or (λ x. true) false (task_number p u), 8) ∷ (nat_le p.names.limit p.names.count, 9)
    ∷ (gone p.order n, 13) ∷ (few p.order 2, 17) ∷ []) (taken None)
judged_kind p n (End t) = refusal ((gone p.order n, 13) ∷ (has_own (p.order.task n).finishes, 16) ∷ []) (taken None)
judged_kind p n (Open t) = refusal ((gone p.order n, 13) ∷ (few p.order 1, 17) ∷ []) (taken None)
judged_kind p n (Close t) =
    refusal
    ((gone p.order n, 13) ∷ (not (has_own (p.order.task n).finishes), 14)
    ∷ (lived p.order (head_or (p.order.task n).finishes 0), 15) ∷ (few p.order 1, 17) ∷ []) (taken None)
judged_kind p n (Read t c) = refusal ((gone p.order n, 13) ∷ []) (judged_access p c (read_race p n c))
judged_kind p n (Write t c) = refusal ((gone p.order n, 13) ∷ []) (judged_access p c (write_race p n c))

-- the left read after one more read, on the step s at the place n:
-- the new one if the old one is on its step or before it, else the first of the two in serial order
abbrev pub new_left : Order → ℕ → ℕ → Option Mark → Mark
new_left m s n None = record { step = s; place = n }
new_left m s n (Some w) = cond (moves_left m s w.step) (record { step = s; place = n }) w

-- the right read: likewise, with the last of the two
abbrev pub new_right : Order → ℕ → ℕ → Option Mark → Mark
new_right m s n None = record { step = s; place = n }
new_right m s n (Some w) = cond (moves_right m s w.step) (record { step = s; place = n }) w

-- a history after a read, on the step s at the place n
abbrev pub after_read : Order → ℕ → ℕ → History → History
after_read m s n x = record x { left = Some (new_left m s n x.left); right = Some (new_right m s n x.right) }

-- a history after a write: there is no read since it
abbrev pub after_write : ℕ → ℕ → History
after_write s n = record blank { write = Some (record { step = s; place = n }) }

-- one more event is counted, and nothing else is changed
abbrev pub counted : {C : Type 0} → Parts C → Parts C
counted p = record p { count = p.count + 1 }

-- the parts of a run that was just opened
abbrev pub emptied_parts : {C : Type 0} → Limits → Parts C
emptied_parts l = record { order = emptied l.steps; cells = none_held l.cells; names = none_held l.names; count = 0 }

module _ {C : Type 0} (k : CellKind C) where
  -- the history of a cell, by the definition of its marks
  abbrev pub history_of : Past C → C → History
  history_of h c = record { write = mark_at h (last_write k h c); left = mark_at h (left_read k h c); right = mark_at h (right_read k h c) }

  -- the history of the cell c after the event e, by a task on the step s, at the place n
  abbrev pub history_with : Order → ℕ → ℕ → Event C → C → History → History
  history_with m s n (Read t d) c x = cond (k.same c d) (after_read m s n x) x
  history_with m s n (Write t d) c x = cond (k.same c d) (after_write s n) x
  history_with m s n e c x = x

  -- the parts of a past
  abbrev pub parts_of : Limits → Past C → Parts C
  parts_of l h = record {
    order = order_of l.steps h;
    cells = record { limit = l.cells; count = cells_held k h; find = λ c. cond (cell_held k h c) (Some (history_of h c)) None };
    names = record { limit = l.names; count = length (spawned_tasks h); find = λ u. cond (made h u) (Some (number h u)) None };
    count = length h;
  }

  -- what can be said of an event from the parts alone, and the limit of events, which is the run's own
  abbrev pub judged : ℕ → Parts C → Event C → Answer C
  judged events p e =
      refusal ((nat_le events p.count, 10) ∷ (not (numbers_fit k e), 6) ∷ [])
      (some_or (λ n. judged_kind p n e) (refused 7) (task_number p (actor e)))

  -- the parts after a taken event of the task with number n
  abbrev pub moved_parts : Parts C → ℕ → Event C → Parts C
  moved_parts p n (Spawn t u) =
      record (counted p) { order = spawned p.order n; names = with_key nat_eq p.names u p.order.tasks }
  moved_parts p n (End t) = record (counted p) { order = done p.order n }
  moved_parts p n (Open t) = record (counted p) { order = opened p.order n }
  moved_parts p n (Close t) = record (counted p) { order = closed p.order n }
  moved_parts p n (Read t c) =
      record (counted p) {
        cells = with_key k.same p.cells c (after_read p.order (p.order.task n).current p.count (history_in p.cells c));
      }
  moved_parts p n (Write t c) =
      record (counted p) { cells = with_key k.same p.cells c (after_write (p.order.task n).current p.count) }

  -- the parts after a taken event, by the number that its task has in them
  abbrev pub stepped : Parts C → Event C → Parts C
  stepped p e = some_or (λ n. moved_parts p n e) p (task_number p (actor e))

-- a mark, if there is one, has a step of the order and a place of the past
abbrev pub MarkHeld : ℕ → ℕ → Option Mark → Type 0
MarkHeld steps count o = (w : Mark) → o ≡ Some w → (w.step < steps) × (w.place < count)

-- so has each mark of a history
pub record HistoryHeld (steps count : ℕ) (x : History) : Type 0 where
  pub write_held : MarkHeld steps count x.write
  pub left_held : MarkHeld steps count x.left
  pub right_held : MarkHeld steps count x.right

-- the order is one that a keeper reaches; the parts stay within the limits that a run was opened with,
-- and what they hold is within the order and the count
pub record Room {C : Type 0} (l : Limits) (p : Parts C) : Type 0 where
  pub count_within : p.count ≤ l.events
  pub names_limit : p.names.limit ≡ l.names
  pub names_within : p.names.count ≤ l.names
  pub cells_limit : p.cells.limit ≡ l.cells
  pub cells_within : p.cells.count ≤ l.cells
  pub steps_limit : p.order.limit ≡ l.steps
  -- step 0 is held whatever the limit
  pub steps_within : 1 ≤ l.steps → p.order.steps ≤ l.steps
  pub tasks_are : p.order.tasks ≡ p.names.count + 1
  pub reached : Reached l.steps p.order
  pub history_held : (c : C) (x : History) → p.cells.find c ≡ Some x → HistoryHeld p.order.steps p.count x
  pub number_held : (t n : ℕ) → task_number p t ≡ Some n → (n < p.order.tasks) × ((p.order.task n).current < p.order.steps)

module _ {C : Type 0} (k : CellKind C) (l : Limits) where
  -- what can be said and done from the parts of a clean past
  pub record ByParts (h : Past C) : Type 0 where
    -- the parts say what the rules say, and move as the past does
    pub judged_is : (e : Event C) → judged k l.events (parts_of k l h) e ≡ judge k l h e
    pub stepped_is : (e : Event C) (r : Option (Race C)) → judge k l h e ≡ taken r → parts_of k l (e ∷ h) ≡ stepped k (parts_of k l h) e
    -- an access that makes a race changes the count, and else only the cells, of which a raced run asks nothing more
    pub raced_is : (e : Event C) (r : Race C) → judge k l h e ≡ taken (Some r)
        → record (parts_of k l (e ∷ h)) { cells = (parts_of k l h).cells } ≡ counted (parts_of k l h)
    -- a taken event has room for its count
    pub counted_is : (e : Event C) (r : Option (Race C)) → judge k l h e ≡ taken r → length h < l.events
    -- a task that is found has the keeper's number
    pub number_is : (t n : ℕ) → task_number (parts_of k l h) t ≡ Some n → n ≡ number h t
    pub room : Room l (parts_of k l h)

  -- law 8: clean pasts are judged by their parts
  abbrev pub JudgedByParts : Type 0
  JudgedByParts = (parts_of k l [] ≡ emptied_parts l) × ((h : Past C) → Clean k l h → ByParts h)

  -- law 7, of marks: those that are kept up to date are those of the definition
  abbrev pub MarksKept : Type 0
  MarksKept = (h : Past C) (e : Event C) → Clean k l h → judge k l h e ≡ taken None → (c : C)
      → history_of k (e ∷ h) c ≡ history_with k (order_of l.steps h) (step_now h (actor e)) (length h) e c (history_of k h c)
