-- The shape through each call, with the labels that the call gives to its new steps and to a new finish.
use Rattle.std.proofs.lemmas.Bool.Decides.{nat_tests}
use Rattle.std.proofs.Common.{◌≡◌, ℕ, suc, ◌+◌, Bool, true, false, not, T, List, [], ◌∷◌, ap, ◌∙◌, arith}
use Rattle.model.specs.Orders.{Order, spawned, opened, closed}
use Rattle.model.specs.Labels.{Label, odd, child_of, next_of, inner_of}
use Rattle.model.specs.Shapes.{Runner, Shape}
use Rattle.model.proofs.Trees.Labels.{turned_at}
use Rattle.model.proofs.Trees.Spawn.{spawn_shape}
use Rattle.model.proofs.Trees.Open.{open_shape}
use Rattle.model.proofs.Trees.Close.{close_shape, level, at_f}

-- two after an even turn comes an even one
even_on : (b : Bool) → T (not b) → T (not (not (not b)))
even_on true h = h
even_on false h = tt

module _ (m : Order) (lab node : ℕ → Label) (by owner : ℕ → ℕ) (sh : Shape m lab node by owner) (t : ℕ) (run : T (m.task t).running) where
  -- the task t
  abbrev here : Runner m lab node by owner t (m.task t)
  here = sh.runner t run

  pub spawn_kept : lab m.steps ≡ child_of (lab (m.task t).current) → lab (m.steps + 1) ≡ next_of (lab (m.task t).current)
      → by m.steps ≡ m.tasks → by (m.steps + 1) ≡ t → Shape (spawned m t) lab node by owner
  spawn_kept at_child at_own by_child by_own =
      spawn_shape m lab node by owner sh t run (suc here.turn) (suc (suc here.turn))
      (omega arith) here.even (omega arith) (even_on (odd here.turn) here.even)
      (at_child ∙ ap child_of here.at ∙ turned_at (λ n. suc n ∷ (0 ∷ [])) here.path here.turn)
      (at_own ∙ ap next_of here.at ∙ turned_at (λ n. suc (suc n) ∷ []) here.path here.turn) by_child by_own

  pub open_kept : lab m.steps ≡ inner_of (lab (m.task t).current) → node m.finishes ≡ next_of (lab (m.task t).current)
      → by m.steps ≡ t → owner m.finishes ≡ t → Shape (opened m t) lab node by owner
  open_kept at_own at_node by_own owner_own =
      open_shape m lab node by owner sh t run (suc (suc here.turn)) (omega arith) (even_on (odd here.turn) here.even)
      (at_own ∙ ap inner_of here.at ∙ turned_at (λ n. suc (suc n) ∷ (0 ∷ [])) here.path here.turn)
      (at_node ∙ ap next_of here.at ∙ turned_at (λ n. suc (suc n) ∷ []) here.path here.turn) by_own owner_own

  pub close_kept : (f g : ℕ) (fs : List ℕ) → (m.task t).finishes ≡ f ∷ (g ∷ fs) → ((u : ℕ) → T (m.lives f u) → ⊥)
      → lab m.steps ≡ next_of (node f) → by m.steps ≡ t → Shape (closed m t) lab node by owner
  close_kept f g fs fin empty at_own by_own =
      let l = level m lab node by owner sh t run f g fs fin empty in
      grind (arith, nat_tests, close_shape, empty, even_on, at_f, turned_at)
