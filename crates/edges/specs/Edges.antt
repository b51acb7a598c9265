-- The edges of the graph of steps, and what is before what by them.
use Rattle.std.specs.Prelude.{ℕ, ◌<◌, T, ◌↔◌}
use Rattle.model.specs.Orders.{Order}
use Rattle.edges.specs.Ways.{Ways}

-- an edge leads from one step to another: to each step but the first from the one that it comes from, and to the step that closed a
-- finish from the last step of each task that ended in it
pub data Edge (m : Order) (w : Ways) : ℕ → ℕ → Type 0 where
  came : (x : ℕ) → 0 < x → x < m.steps → Edge m w (w.from x) x
  awaited : (f l : ℕ) → T (m.last f l) → 0 < w.shut f → Edge m w l (w.shut f)

-- edges, one after the other, lead from a to b
pub data Leads (m : Order) (w : Ways) (a : ℕ) : ℕ → Type 0 where
  by_one : (b : ℕ) → Edge m w a b → Leads m w a b
  by_more : (b c : ℕ) → Leads m w a b → Edge m w b c → Leads m w a c

-- a step is before another exactly when edges lead from the one to the other
abbrev pub EdgesTell : Order → Ways → Type 0
EdgesTell m w = (a b : ℕ) → T (m.before a b) ↔ Leads m w a b
