-- A running task ends.
use Rattle.std.proofs.lemmas.Bool.Decides.{nat_tests}
use Rattle.model.proofs.Trees.Tasks.{retask_case}
use Rattle.std.proofs.Common.{◌≡◌, ℕ, ◌<◌, false, T, ◌⊎◌, [], ◌∷◌, Some, sym, refl, ap, ◌∙◌, subst, arith}
use Rattle.model.specs.Lists.{last_in, head_or}
use Rattle.model.specs.Orders.{Order, Task, done}
use Rattle.edges.specs.Ways.{Ways}
use Rattle.edges.proofs.Paths.{Back}
use Rattle.edges.proofs.Kept.{Owns, Stands, Walker, Kept}
use Rattle.edges.proofs.Refit.{walker_keep, grown_keep, told_keep}

module _ {m : Order} {w : Ways} {t f : ℕ} (k : Kept m w) (run : T (m.task t).running) (fin : (m.task t).finishes ≡ f ∷ []) where
  -- the order after the end
  abbrev n : Order
  n = done m t

  -- the ended task
  abbrev own : Task
  own = record { running = false; current = (m.task t).current; finishes = [] }

  task_case : (P : Task → Type 0) (x : ℕ) → (x ≡ t → P own) → ((x ≡ t → ⊥) → P (m.task x)) → P (n.task x)
  task_case P x p q = retask_case P m.task t own x p q

  cur_same : (x : ℕ) → (n.task x).current ≡ (m.task x).current
  cur_same x = grind (arith, nat_tests)

  now : Walker m w t (m.task t)
  now = k.walker t run

  -- the task lives in its only finish
  home_is : w.home (m.task t).current ≡ f
  home_is = let e : Some (w.home (m.task t).current) ≡ Some f = sym now.home_last ∙ ap last_in fin in cc

  head_is : head_or (m.task t).finishes 0 ≡ f
  head_is = ap (λ z. head_or z 0) fin

  -- the last steps are the old ones, and the task's own
  last_split : (g l : ℕ) → T (n.last g l) → ((g ≡ f) × (l ≡ (m.task t).current)) ⊎ T (m.last g l)
  last_split g l h = let e = head_is in grind arith

  last_old : (g l : ℕ) → T (m.last g l) → T (n.last g l)
  last_old g l h = grind arith

  last_new : (g l : ℕ) → g ≡ f → l ≡ (m.task t).current → T (n.last g l)
  last_new g l d e = let i = head_is in grind (arith, nat_tests)

  lives_old : (g u : ℕ) → (u ≡ t → ⊥) → T (m.lives g u) → T (n.lives g u)
  lives_old g u d h = grind arith

  -- the task has no own finishes
  owns_of : (x g : ℕ) → Owns n x g → Owns m x g
  owns_of x g = grind arith

  owns_old : (x g : ℕ) → Owns m x g → Owns n x g
  owns_old x g = grind arith

  -- it stands where it stood
  stands_of : (g x : ℕ) → Stands n w g x → Stands m w g x
  stands_of g x = grind (arith, last_split, home_is)

  stands_on : (g x : ℕ) → Stands m w g x → Stands n w g x
  stands_on g x = grind (arith, last_old, last_new, home_is)

  walker_on : (x : ℕ) → T (n.task x).running → Walker n w x (n.task x)
  walker_on x =
      task_case (λ z. T z.running → Walker n w x z) x (λ e go. absurd go)
      (λ d go.
      let r = k.walker x go in
      walker_keep m n w w.shut x (m.task x) refl (omega arith) r (lives_old (w.home (m.task x).current) x d r.lives)
      r.open_still r.awake (λ y. owns_old y (w.home (m.task x).current)))

  last_is : (g l : ℕ) → T (n.last g l) → (l < m.steps) × (w.home l ≡ g)
  last_is g l i = grind (arith, last_split, home_is, k.last_is)

  pub end_kept : Kept n w
  end_kept =
      record {
        grown = grown_keep m n w refl (omega arith) k.grown;
        walker = walker_on;
        one_owner = λ u v g o p. k.one_owner u v g (owns_of u g o) (owns_of v g p);
        last_is = last_is;
        handed = λ v g x y o st b d.
            subst (Back w.from y) (sym (cur_same v)) (k.handed v g x y (owns_of v g o) (stands_of g x st) b d);
        awaited = λ z l. let (x, st, b) = k.awaited z l in (x, stands_on (w.home z) x st, b);
        order = told_keep m n w refl (λ a b. refl) k.order;
      }
