-- The limits that a clean past keeps.
use Rattle.std.proofs.lemmas.Bool.Decides.{nat_tests}
use Rattle.std.proofs.Common.{◌≡◌, ◌+◌, ◌≤◌, cond, not, ◌&&◌, T, leb, ◌⊎◌, [], ◌∷◌, length, refl, inr, arith}
use Rattle.model.specs.declared.Event.TheVariants.{Spawn}
use Rattle.model.specs.Past.{Past, spawned_tasks}
use Rattle.model.specs.Accesses.{CellKind}
use Rattle.model.specs.Cells.{cell_held, cells_held}
use Rattle.model.specs.Rules.{Limits, steps_held}
use Rattle.model.specs.Laws.{Clean}
use Rattle.model.proofs.Orderings.Races.{clean_passes}

module _ {C : Type 0} (k : CellKind C) (l : Limits) where
  pub events_bound : (h : Past C) → Clean k l h → length h ≤ l.events
  events_bound [] cl = omega arith
  events_bound (e ∷ h) cl = let w = (clean_passes k l h e cl.0).0.0 in grind arith

  pub names_bound : (h : Past C) → Clean k l h → length (spawned_tasks h) ≤ l.names
  names_bound [] cl = omega arith
  names_bound (Spawn t u ∷ h) cl = grind arith
  names_bound (e ∷ h) cl = grind (arith, nat_tests, names_bound h)

  pub steps_bound : (h : Past C) → Clean k l h → (steps_held h ≤ l.steps) ⊎ (steps_held h ≡ 1)
  steps_bound [] cl = inr refl
  steps_bound (Spawn t u ∷ h) cl = grind arith
  steps_bound (e ∷ h) cl = grind (arith, nat_tests, steps_bound h)

  -- a cell that is new finds room
  cell_more : (h : Past C) (c : C) → (T (not (cell_held k h c) && leb l.cells (cells_held k h)) → ⊥)
      → cells_held k h ≤ l.cells → cond (cell_held k h c) 0 1 + cells_held k h ≤ l.cells
  cell_more h c f b = grind arith

  pub cells_bound : (h : Past C) → Clean k l h → cells_held k h ≤ l.cells
  cells_bound [] cl = omega arith
  cells_bound (Spawn t u ∷ h) cl = let w = cells_bound h cl.1 in omega arith
  cells_bound (e ∷ h) cl = grind (arith, nat_tests, cells_bound h, cell_more, clean_passes)

pub steps_pos : {C : Type 0} (h : Past C) → 1 ≤ steps_held h
steps_pos [] = omega arith
steps_pos (e ∷ h) = let w = steps_pos h in omega arith
