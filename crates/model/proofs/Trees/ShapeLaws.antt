-- The laws of an order follow from its shape.
use Rattle.std.proofs.lemmas.Bool.Decides.{nat_tests}
use Rattle.std.proofs.Common.{ℕ, ◌<◌, ◌≤◌, T, ◌⊎◌, List, [], ◌∷◌, sym, subst, inl, inr, arith}
use Rattle.model.specs.Lists.{mem}
use Rattle.model.specs.Orders.{Order}
use Rattle.model.specs.Reached.{OrderLaws}
use Rattle.model.specs.Labels.{Label, left, over}
use Rattle.model.specs.Shapes.{In, Shape}
use Rattle.model.proofs.Trees.Labels.{over_left, left_irrefl, left_trans, over_trans, left_total, over_between}

module _ (m : Order) (lab node : ℕ → Label) (by owner : ℕ → ℕ) (sh : Shape m lab node by owner) where
  -- what the labels say of two steps, each way
  over_of : (a b : ℕ) → T (m.before a b) → T (over (lab a) (lab b))
  over_of a b h = let k = sh.before_held a b h in subst T (sh.labelled.before_is a b k.0 k.1) h

  of_over : (a b : ℕ) → a < m.steps → b < m.steps → T (over (lab a) (lab b)) → T (m.before a b)
  of_over a b k l h = subst T (sym (sh.labelled.before_is a b k l)) h

  left_of : (a b : ℕ) → T (m.earlier a b) → T (left (lab a) (lab b))
  left_of a b h = let k = sh.earlier_held a b h in subst T (sh.labelled.earlier_is a b k.0 k.1) h

  of_left : (a b : ℕ) → a < m.steps → b < m.steps → T (left (lab a) (lab b)) → T (m.earlier a b)
  of_left a b k l h = subst T (sym (sh.labelled.earlier_is a b k l)) h

  total : (a b : ℕ) → a < m.steps → b < m.steps → T (left (lab a) (lab b)) ⊎ T (left (lab b) (lab a))
      → T (m.earlier a b) ⊎ T (m.earlier b a)
  total a b k l (inl h) = inl (of_left a b k l h)
  total a b k l (inr h) = inr (of_left b a l k h)

  -- a number that the test finds in a task's finishes is one of them
  listed : (f : ℕ) (fs : List ℕ) → T (mem f fs) → In f fs
  listed f [] h = h
  listed f (x ∷ fs) h = grind (arith, nat_tests, listed f fs)

  pub shape_laws : m.tasks ≤ m.steps → m.finishes ≤ m.steps → OrderLaws m
  shape_laws tasks finishes =
      record {
        before_held = sh.before_held;
        earlier_held = sh.earlier_held;
        before_trans = λ a b c h k.
            of_over a c (sh.before_held a b h).0 (sh.before_held b c k).1
            (over_trans (lab a) (lab b) (lab c) (over_of a b h) (over_of b c k));
        before_earlier = λ a b h.
            of_left a b (sh.before_held a b h).0 (sh.before_held a b h).1 (over_left (lab a) (lab b) (over_of a b h));
        earlier_trans = λ a b c h k.
            of_left a c (sh.earlier_held a b h).0 (sh.earlier_held b c k).1
            (left_trans (lab a) (lab b) (lab c) (left_of a b h) (left_of b c k));
        earlier_irrefl = λ a h. left_irrefl (lab a) (left_of a a h);
        earlier_total = λ a b k l n. total a b k l (left_total (lab a) (lab b) (λ e. n (sh.labelled.apart a b k l e)));
        tasks_within = tasks;
        finishes_within = finishes;
        task_held = λ t r. (sh.runner t r).held;
        finish_held = λ t f r h. (sh.runner t r).finish_held f (listed f (m.task t).finishes h);
        current_held = λ t r. (sh.runner t r).current_held;
        current_last = λ t b r h. (sh.runner t r).tip b h;
        between = λ a b c h k n o.
            of_over b c (sh.earlier_held a b h).1 (sh.earlier_held b c k).1
            (over_between (lab a) (lab b) (lab c) (left_of a b h) (left_of b c k)
            (λ q. n (of_over a b (sh.earlier_held a b h).0 (sh.earlier_held a b h).1 q)) (over_of a c o));
      }
