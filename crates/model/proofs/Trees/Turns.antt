-- A spawn and an open add their steps at the current step itself: it is the rightmost child of its node, and the last one there.
use Rattle.std.proofs.Common.{◌≡◌, ℕ, suc, ◌<◌, T, eqb, ◌⊎◌, [], ◌∷◌, ◌++◌, sym, ap, ◌∙◌, subst, inl, inr, arith}
use Rattle.std.proofs.lemmas.Bool.{cases_eq}
use Rattle.std.proofs.lemmas.Bool.Decides.{nat_tests}
use Rattle.model.specs.Orders.{Order, at_or_after}
use Rattle.model.specs.Labels.{Label, Under, Low}
use Rattle.model.specs.Shapes.{In, Runner, Shape}
use Rattle.model.proofs.Shelf.Tests.{or_l, or_r}
use Rattle.model.proofs.Trees.Labels.{low_here, low_more, low_turn, under_low, under_refl}
use Rattle.model.proofs.Trees.Tasks.{at_held, not_at, current_apart}
use Rattle.model.proofs.Trees.Added.{Spot}

module _ {m : Order} {lab node : ℕ → Label} {by owner : ℕ → ℕ} (sh : Shape m lab node by owner) (t : ℕ) (run : T (m.task t).running) where
  -- the task t
  abbrev here : Runner m lab node by owner t (m.task t)
  here = sh.runner t run

  -- its current step
  abbrev now : ℕ
  now = (m.task t).current

  -- the label of that step
  abbrev child : Label
  child = here.path ++ (here.turn ∷ [])

  -- every step turns at most where the current one does
  pub old_low : (x : ℕ) → x < m.steps → Low here.path (suc here.turn) (lab x)
  old_low x h = grind (arith, nat_tests, low_here, low_more)

  -- no finish has the node of the current step
  not_finish : (y : ℕ) → y < m.finishes → node y ≡ child → ⊥
  not_finish y h e = grind (arith, low_turn)

  pub own_keeps : (y : ℕ) → In y (m.task t).finishes → (y < m.finishes) × (node y ≡ child → ⊥)
  own_keeps y i = (here.finish_held y i, not_finish y (here.finish_held y i))

  only_now : (x : ℕ) → x < m.steps → Under child (lab x) → now ≡ x
  only_now x h u = sh.labelled.leaf now x here.current_held h (subst (λ z. Under z (lab x)) (sym here.at) u)

  joined_out : (x : ℕ) → T (at_or_after m now x) → (Under child (lab x) → ⊥) → T (m.before x now)
  joined_out x w d = go (cases_eq x now)
    where
      go : (x ≡ now) ⊎ (x ≡ now → ⊥) → T (m.before x now)
      go (inl e) = absurd (d (subst (Under child) (sym (ap lab e ∙ here.at)) (under_refl child)))
      go (inr o) = grind arith

  pub turn_spot : Spot m lab node t here.path here.turn (at_or_after m now)
  turn_spot =
      record {
        even = here.even;
        level = record {
          step_low = old_low;
          node_low = λ f h. low_more here.path here.turn (suc here.turn) (node f) (omega arith) (here.node_low f h);
        };
        tail = [];
        at = here.at;
        low_there = λ p i a b. subst (Low p i) here.at a;
        latest = λ x h d u. absurd (d (sym (only_now x h u)));
        stays = λ u y go d i. not_finish y ((sh.runner u go).finish_held y i);
        outer = λ y h d u.
            let at : Under (node y) child = subst (Under (node y)) here.at u in
            under_low here.path here.turn (node y) here.turn [] (here.node_low y h) (omega arith) at;
        joined_held = λ x w. at_held sh now x here.current_held w;
        joined_in = λ x h u. let e : now ≡ x = only_now x h u in or_l (eqb x now) (m.before x now) (grind arith);
        joined_out = joined_out;
        joined_before = λ x w. or_r (eqb x now) (m.before x now) w;
        joined_tip = λ u go d w. d (current_apart sh u t go run (not_at sh now u go w));
      }
