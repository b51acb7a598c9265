-- The writes of a call, one after the other, are what the call makes of a book.
use Rattle.std.proofs.Common.{◌≡◌, ℕ, ◌+◌, ◌-◌, true, false}
use Rattle.model.specs.Lists.{put}
use Rattle.order.specs.declared.record.Seat.{Seat}
use Rattle.order.specs.declared.record.TaskRow.{TaskRow}
use Rattle.order.specs.declared.record.FinishRow.{FinishRow}
use Rattle.order.specs.States.{State, seated, spawn_book, open_book, close_book, end_book}

abbrev pub seat_in : ℕ → Seat → State → State
seat_in x seat s = record s { link = seated s.link x seat }

abbrev pub task_in : ℕ → TaskRow → State → State
task_in t k s = record s { task = put s.task t k }

abbrev pub finish_in : ℕ → FinishRow → State → State
finish_in f k s = record s { finish = put s.finish f k }

-- what was read of the task and of its finish is what the book held
module _ (s₀ : State) (t : ℕ) (k : TaskRow) (f : FinishRow) (is_k : k ≡ s₀.task t) (is_f : f ≡ s₀.finish k.inner) where
  abbrev n : ℕ
  n = s₀.steps

  pub spawn_chain : (child next : Seat) (s₁ s₂ s₃ s₄ s₅ : State)
      → s₁ ≡ seat_in n child s₀ → s₂ ≡ seat_in (n + 1) next s₁
      → s₃ ≡ task_in t (record k { current = n + 1 }) s₂
      → s₄ ≡ task_in s₃.tasks (record { running = true; current = n; inner = k.inner; own = 0; home = k.inner }) s₃
      → s₅ ≡ finish_in k.inner (record f { alive = f.alive + 1 }) s₄
      → record s₅ { steps = s₅.steps + 2; tasks = s₅.tasks + 1 } ≡ spawn_book s₀ t child next
  spawn_chain child next s₁ s₂ s₃ s₄ s₅ a b c d e = cc

  pub open_chain : (next : Seat) (s₁ s₂ s₃ : State)
      → s₁ ≡ seat_in n next s₀
      → s₂ ≡ task_in t (record k { current = n; inner = s₀.finishes; own = k.own + 1 }) s₁
      → s₃ ≡ finish_in s₀.finishes (record { outer = k.inner; alive = 0; shut = 0 }) s₂
      → record s₃ { steps = s₃.steps + 1; finishes = s₃.finishes + 1 } ≡ open_book s₀ t next
  open_chain next s₁ s₂ s₃ a b c = cc

  pub close_chain : (next : Seat) (s₁ s₂ s₃ : State)
      → s₁ ≡ seat_in n next s₀
      → s₂ ≡ task_in t (record k { current = n; inner = f.outer; own = k.own - 1 }) s₁
      → s₃ ≡ finish_in k.inner (record f { shut = n }) s₂
      → record s₃ { steps = s₃.steps + 1 } ≡ close_book s₀ t next
  close_chain next s₁ s₂ s₃ a b c = cc

  pub end_chain : (s₁ s₂ : State)
      → s₁ ≡ task_in t (record k { running = false }) s₀
      → s₂ ≡ finish_in k.inner (record f { alive = f.alive - 1 }) s₁
      → s₂ ≡ end_book s₀ t
  end_chain s₁ s₂ a b = cc
