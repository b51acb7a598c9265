-- A search back over the graph tells which of two steps is before the other.
use Rattle.std.proofs.Common.{◌≡◌, ℕ, ◌<◌, T, subst, arith}
use Rattle.model.specs.Orders.{Order}
use Rattle.model.specs.Reached.{Reached, start, by_spawn, by_open, by_close, by_end}
use Rattle.model.proofs.Shelf.Tests.{T-ext}
use Rattle.model.proofs.Trees.Reached.{reached_laws}
use Rattle.edges.specs.Ways.{ways_of, searched}
use Rattle.edges.proofs.Paths.{searched_finds, searched_below, finds_searched}
use Rattle.edges.proofs.Kept.{Kept}
use Rattle.edges.proofs.Start.{start_kept}
use Rattle.edges.proofs.Calls.{spawn_keeps, open_keeps, close_keeps}
use Rattle.edges.proofs.End.{end_kept}

-- what holds from call to call holds of each reached order
pub reached_kept : (limit : ℕ) (m : Order) (r : Reached limit m) → Kept m (ways_of r)
reached_kept limit m start = start_kept limit
reached_kept limit m (by_spawn o t r run) = spawn_keeps (reached_kept limit o r) t run (reached_laws limit o r)
reached_kept limit m (by_open o t r run) = open_keeps (reached_kept limit o r) t run
reached_kept limit m (by_close o t f g fs r run own none) = close_keeps (reached_kept limit o r) t run f g fs own none
reached_kept limit m (by_end o t f r run own) = end_kept (reached_kept limit o r) run own

-- which of two steps is before the other is found by a search back over the graph
pub before_by_ways : (limit : ℕ) (m : Order) (r : Reached limit m) (a b : ℕ) → a < m.steps → b < m.steps
    → m.before a b ≡ searched (ways_of r) a b
before_by_ways limit m r a b i j =
    let k = reached_kept limit m r in
    let laws = reached_laws limit m r in
    T-ext (m.before a b) (searched (ways_of r) a b)
    (λ t. finds_searched (ways_of r) a b m.steps k.grown.falls j (λ y. k.grown.waits y b j)
    (λ e. laws.earlier_irrefl b (subst (λ z. T (m.earlier z b)) e (laws.before_earlier a b t))) (k.order.told a b t))
    (λ t. let l = searched_below (ways_of r) a b t in
    k.order.found a b i j (λ e. absurd (omega arith)) (searched_finds (ways_of r) a b t))
