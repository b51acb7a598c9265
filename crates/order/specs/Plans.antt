-- Plans of order keepers: where the new steps of a call hang, how the steps that hang there stand, and what a plan owes.
use Rattle.std.specs.Prelude.{◌≡◌, ℕ, ◌^◌, ◌<◌, ◌≤◌, Bool, None}
use Rattle.model.specs.Orders.{Order, emptied, spawned, opened, closed, done}
use Rattle.order.specs.declared.record.Seat.{Seat}
use Rattle.order.specs.Calls.{spawn_fault, open_fault, close_fault, end_fault}
use Rattle.order.specs.States.{State, Cleared, order_with, spawn_book, open_book, close_book, end_book}
use Rattle.order.specs.Invariants.{Plain}

pub record Plan : Type 0 where
  -- a spawn's new steps: the first of the new task, and the spawner's next
  pub child_seat : State → ℕ → Seat
  pub next_seat : State → ℕ → Seat
  -- the new step of an open, and of a close
  pub open_seat : State → ℕ → Seat
  pub close_seat : State → ℕ → Seat
  -- how two steps that are held stand
  pub before : State → ℕ → ℕ → Bool
  pub earlier : State → ℕ → ℕ → Bool

-- the order that a book stands for
abbrev pub order_by : Plan → State → Order
order_by p st = order_with (p.before st) (p.earlier st) st

-- what calls make of a book

abbrev pub spawn_by : Plan → State → ℕ → State
spawn_by p st t = spawn_book st t (p.child_seat st t) (p.next_seat st t)

abbrev pub open_by : Plan → State → ℕ → State
open_by p st t = open_book st t (p.open_seat st t)

abbrev pub close_by : Plan → State → ℕ → State
close_by p st t = close_book st t (p.close_seat st t)

-- the book is sound, and stands for the order m
abbrev pub StandsFor : (State → Type 0) → Plan → State → Order → Type 0
StandsFor Sound p st m = Sound st × (order_by p st ≡ m)

-- what is sound stays sound: a call that is not refused makes of the order what it makes of any
pub record Keeps (Sound : State → Type 0) (p : Plan) : Type 0 where
  pub plain : (st : State) → Sound st → Plain st
  pub clears : (limit : ℕ) (st : State) → Cleared limit st → 0 < limit → limit ≤ 2 ^ 62 → StandsFor Sound p st (emptied limit)
  pub spawns : (st : State) → Sound st → (t : ℕ) → spawn_fault (order_by p st) t ≡ None
      → StandsFor Sound p (spawn_by p st t) (spawned (order_by p st) t)
  pub opens : (st : State) → Sound st → (t : ℕ) → open_fault (order_by p st) t ≡ None
      → StandsFor Sound p (open_by p st t) (opened (order_by p st) t)
  pub closes : (st : State) → Sound st → (t : ℕ) → close_fault (order_by p st) t ≡ None
      → StandsFor Sound p (close_by p st t) (closed (order_by p st) t)
  pub ends : (st : State) → Sound st → (t : ℕ) → end_fault (order_by p st) t ≡ None
      → StandsFor Sound p (end_book st t) (done (order_by p st) t)
