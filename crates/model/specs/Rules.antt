-- The rules: which event is taken, which is refused and by what number (docs/REFUSALS.md has them all), and what a taken access
-- races with.
use Rattle.std.specs.Prelude.{ℕ, ◌+◌, ◌^◌, Bool, cond, not, ◌&&◌, ◌||◌, List, [], ◌∷◌, length, Some, None, Option, ◌==◌, nat_le, nat_lt}
use Rattle.model.specs.declared.Event.{Event}
use Rattle.model.specs.declared.Event.TheVariants.{Spawn, End, Open, Close, Read, Write}
use Rattle.model.specs.declared.RaceKind.{RaceKind}
use Rattle.model.specs.declared.RaceKind.TheVariants.{WriteRead, WriteWrite, ReadWrite}
use Rattle.model.specs.declared.Race.{Race}
use Rattle.model.specs.Lists.{is_empty}
use Rattle.model.specs.Past.{Past, actor, made, ended, spawned_tasks, own, innermost, lived_in}
use Rattle.model.specs.Before.{before}
use Rattle.model.specs.Accesses.{CellKind}
use Rattle.model.specs.Cells.{cell_held, cells_held, last_write, left_read, right_read}

-- how much a run may hold: events taken, steps of its order keeper, cells of its store, names of spawned tasks
pub record Limits : Type 0 where
  pub events : ℕ
  pub steps : ℕ
  pub cells : ℕ
  pub names : ℕ

-- what a feeding run says to an event: taken, with the race that it makes, or refused, by a number
pub data Answer (C : Type 0) : Type 0 where
  taken : Option (Race C) → Answer C
  refused : ℕ → Answer C

-- a number is at most 2^63 - 1
abbrev pub within_max : ℕ → Bool
within_max n = nat_lt n (2 ^ 63)

-- how many steps an event makes; `Orders` says what a step is
abbrev pub steps_of : {C : Type 0} → Event C → ℕ
steps_of (Spawn t u) = 2
steps_of (Open t) = 1
steps_of (Close t) = 1
steps_of e = 0

-- how many steps a past holds: step 0, whatever the limit is, and those that its events make
abbrev pub steps_held : {C : Type 0} → Past C → ℕ
steps_held [] = 1
steps_held (e ∷ h) = steps_of e + steps_held h

-- the race of the next event e with the access at a mark, if that is not before it; or else what `other` says
abbrev pub race_with : {C : Type 0} → RaceKind → Past C → Event C → C → Option ℕ → Option (Race C) → Option (Race C)
race_with kind h e c None other = other
race_with kind h e c (Some i) other =
    cond (before (e ∷ h) i (length h)) other (Some (record { kind = kind; cell = c; first = i; second = length h }))

-- the refusal of the first condition that holds, or else `a`
abbrev pub refusal : {C : Type 0} → List (Bool × ℕ) → Answer C → Answer C
refusal [] a = a
refusal (p ∷ ps) a = cond p.0 (refused p.1) (refusal ps a)

module _ {C : Type 0} (k : CellKind C) where
  -- the race that the next event makes: with the last write, else with the left read, else with the right read
  abbrev pub race_of : Past C → Event C → Option (Race C)
  race_of h (Read t c) = race_with WriteRead h (Read t c) c (last_write k h c) None
  race_of h (Write t c) =
      race_with WriteWrite h (Write t c) c (last_write k h c)
      (race_with ReadWrite h (Write t c) c (left_read k h c) (race_with ReadWrite h (Write t c) c (right_read k h c) None))
  race_of h e = None

  -- every number in an event is in range
  abbrev pub numbers_fit : Event C → Bool
  numbers_fit (Spawn t u) = within_max t && within_max u
  numbers_fit (End t) = within_max t
  numbers_fit (Open t) = within_max t
  numbers_fit (Close t) = within_max t
  numbers_fit (Read t c) = within_max t && k.fits c
  numbers_fit (Write t c) = within_max t && k.fits c

  -- what is said to an access of c by the race that it makes; want of room for the cell counts only where it makes none
  abbrev pub accessed : Limits → Past C → C → Option (Race C) → Answer C
  accessed l h c None = refusal ((not (cell_held k h c) && nat_le l.cells (cells_held k h), 18) ∷ []) (taken None)
  accessed l h c (Some r) = taken (Some r)

  -- the tests that come ahead of all others, each with the number of its refusal
  abbrev pub first_tests : Limits → Past C → Event C → List (Bool × ℕ)
  first_tests l h e =
      (nat_le l.events (length h), 10) ∷ (not (numbers_fit e), 6) ∷ (not (actor e == 0 || made h (actor e)), 7) ∷ []

  -- what is said to an event that passes these, by its kind
  abbrev pub by_kind : Limits → Past C → Event C → Answer C
  by_kind l h (Spawn t u) =
      refusal
      ((u == 0 || made h u, 8)
      ∷ (nat_le l.names (length (spawned_tasks h)), 9)
      ∷ (ended h t, 13)
      ∷ (nat_lt l.steps (steps_held h + 2), 17) ∷ []) (taken None)
  by_kind l h (End t) = refusal ((ended h t, 13) ∷ (not (is_empty (own h t)), 16) ∷ []) (taken None)
  by_kind l h (Open t) = refusal ((ended h t, 13) ∷ (nat_lt l.steps (steps_held h + 1), 17) ∷ []) (taken None)
  by_kind l h (Close t) =
      refusal
      ((ended h t, 13)
      ∷ (is_empty (own h t), 14)
      ∷ (lived_in h (innermost h t), 15)
      ∷ (nat_lt l.steps (steps_held h + 1), 17) ∷ []) (taken None)
  by_kind l h (Read t c) = refusal ((ended h t, 13) ∷ []) (accessed l h c (race_of h (Read t c)))
  by_kind l h (Write t c) = refusal ((ended h t, 13) ∷ []) (accessed l h c (race_of h (Write t c)))

  -- what a feeding run with the limits l and the past h says to the event e
  abbrev pub judge : Limits → Past C → Event C → Answer C
  judge l h e = refusal (first_tests l h e) (by_kind l h e)
