-- Each call keeps what holds of the graph, of the tasks and of the order.
use Rattle.std.proofs.lemmas.Bool.Decides.{nat_tests}
use Rattle.std.proofs.Common.{◌≡◌, ℕ, ◌+◌, ◌<◌, Bool, true, cond, T, eqb, ◌==◌, ◌||◌, ◌&&◌, ◌⊎◌, List, [], ◌∷◌, Some, sym, refl, ap, ◌∙◌, subst, inl, inr, arith}
use Rattle.std.proofs.Math.Facts.{yes_and}
use Rattle.model.specs.Lists.{any, below, rest, head_or, last_in, put}
use Rattle.model.specs.Orders.{Order, Task, at_or_after, spawned, opened, closed}
use Rattle.model.specs.Reached.{OrderLaws}
use Rattle.model.specs.Shapes.{In}
use Rattle.model.proofs.Shelf.Tests.{is_true, or_l, or_r, cond_eq, cond_ne}
use Rattle.model.proofs.Shelf.Lists.{any_below_of, any_below_in}
use Rattle.model.proofs.Trees.Tasks.{retask_at, retask_off}
use Rattle.edges.specs.Ways.{Ways, spawn_ways, next_ways, close_ways}
use Rattle.edges.proofs.Paths.{shut_by}
use Rattle.edges.proofs.Kept.{Walker, Kept, last_is_in}
use Rattle.edges.proofs.Add.{grow, Adds, add_kept, put_off}
use Rattle.edges.proofs.Refit.{Refits}
use Rattle.edges.proofs.Open.{open_kept}
use Rattle.edges.proofs.Shut.{Shuts, shut_kept}

-- the innermost finish is one of a task's finishes
head_in : (h : ℕ) (fs : List ℕ) → last_in fs ≡ Some h → In (head_or fs 0) fs
head_in h [] e = cc
head_in h (x ∷ fs) e = inl refl

module _ {m : Order} {w : Ways} (k : Kept m w) (t : ℕ) (run : T (m.task t).running) where
  -- the step that t is on
  abbrev s : ℕ
  s = (m.task t).current

  -- its innermost finish
  abbrev f : ℕ
  f = head_or (m.task t).finishes 0

  now : Walker m w t (m.task t)
  now = k.walker t run

  home_in : In (w.home s) (m.task t).finishes
  home_in = last_is_in (w.home s) (m.task t).finishes now.home_last

  -- one more step of t, and nothing else
  abbrev stepped : Order
  stepped =
      record m {
        steps = m.steps + 1;
        before = λ a b. cond (b == m.steps) (at_or_after m s a) (m.before a b);
        task = put m.task t (record (m.task t) { current = m.steps });
      }

  step_adds : Adds m stepped w t t s (w.home s) (m.task t).finishes
  step_adds =
      record {
        run = run;
        at = refl;
        h_in = home_in;
        steps_is = refl;
        finishes_is = refl;
        last_same = λ f l. refl;
        lives_more = λ f v l. l;
        lives_new = now.lives;
        task_new = retask_at m.task t (record (m.task t) { current = m.steps });
        task_old = λ v d. retask_off m.task t (record (m.task t) { current = m.steps }) v d;
        which = inl (refl, refl, refl);
        before_is = λ a b. refl;
      }

  step_kept : Kept stepped (next_ways m t w)
  step_kept = add_kept k step_adds

  -- t after the step
  abbrev moved : Task
  moved = record (m.task t) { current = m.steps }

  stepped_own : stepped.task t ≡ moved
  stepped_own = retask_at m.task t moved

  -- t, with other finishes as well
  abbrev refitted : List ℕ → Task
  refitted l = record (m.task t) { current = m.steps; finishes = l }

  -- what is asked of another change of finishes at that step
  refits_to : (n : Order) (new l : List ℕ) → n.steps ≡ m.steps + 1 → ((f l : ℕ) → n.last f l ≡ m.last f l)
      → ((f v : ℕ) → T (m.lives f v) → T (n.lives f v)) → ((v : ℕ) → n.task v ≡ put m.task t (refitted new) v) → new ≡ l
      → Refits stepped n t l
  refits_to n new l steps last lives task e =
      record {
        run = subst (λ (z : Task). T z.running) (sym stepped_own) run;
        steps_is = steps;
        last_same = last;
        lives_more = lives;
        task_new = task t ∙ retask_at m.task t (refitted new) ∙ ap refitted e
            ∙ ap {B = Task} (λ (z : Task). record { running = z.running; current = z.current; finishes = l }) (sym stepped_own);
        task_old = λ v d. task v ∙ retask_off m.task t (refitted new) v d ∙ sym (retask_off m.task t moved v d);
      }

  pub open_keeps : Kept (opened m t) (next_ways m t w)
  open_keeps =
      open_kept step_kept
      (refits_to (opened m t) (m.finishes ∷ (m.task t).finishes) (stepped.finishes ∷ (stepped.task t).finishes) refl
      (λ f l. refl) (λ f v l. l) (λ v. refl) (ap (λ (z : Task). m.finishes ∷ z.finishes) (sym stepped_own)))
      refl (λ x y. refl)

  module _ (f g : ℕ) (fs : List ℕ) (fin : (m.task t).finishes ≡ f ∷ (g ∷ fs)) (none : (u : ℕ) → T (m.lives f u) → ⊥) where
    -- whether x is at or before an end in f
    abbrev ended : ℕ → Bool
    ended x = any (λ l. m.last f l && at_or_after m l x) (below m.steps)

    closed_before : (x y : ℕ) → (closed m t).before x y ≡ cond (eqb y m.steps) (at_or_after m s x || ended x) (m.before x y)
    closed_before x y =
        ap (λ z. cond (eqb y m.steps) (at_or_after m s x || any (λ l. m.last (head_or z 0) l && at_or_after m l x) (below m.steps))
        (m.before x y)) fin

    closed_new : (x : ℕ) → (closed m t).before x m.steps ≡ (at_or_after m s x || ended x)
    closed_new x = closed_before x m.steps ∙ cond_eq m.steps m.steps (at_or_after m s x || ended x) (m.before x m.steps) refl

    stepped_new : (x : ℕ) → stepped.before x m.steps ≡ at_or_after m s x
    stepped_new x = cond_eq m.steps m.steps (at_or_after m s x) (m.before x m.steps) refl

    stepped_old : (x y : ℕ) → (y ≡ m.steps → ⊥) → stepped.before x y ≡ m.before x y
    stepped_old x y d = cond_ne y m.steps (at_or_after m s x) (m.before x y) d

    at_old : (x l : ℕ) → l < m.steps → at_or_after stepped l x ≡ at_or_after m l x
    at_old x l h = ap (λ b. eqb x l || b) (stepped_old x l (λ e. absurd (omega arith)))

    -- what is before the step of the close: all before it as a next step, and what is at or before an end in f
    joins : (x : ℕ) → T ((closed m t).before x m.steps)
        → T (stepped.before x m.steps) ⊎ ((l : ℕ) × T (m.last f l) × T (at_or_after stepped l x))
    joins x b = grind (arith, nat_tests, closed_new, stepped_new, any_below_of, at_old)

    joined : (x : ℕ) → T (stepped.before x m.steps) ⊎ ((l : ℕ) × T (m.last f l) × T (at_or_after stepped l x))
        → T ((closed m t).before x m.steps)
    joined x (inl i) =
        subst T (sym (closed_new x)) (or_l (at_or_after m s x) (ended x) (subst T (stepped_new x) i))
    joined x (inr (l, last, at)) =
        let h = (k.last_is f l last).0 in
        let both = yes_and (m.last f l) (at_or_after m l x) last (subst T (at_old x l h) at) in
        let i : T (ended x) = any_below_in (λ l. m.last f l && at_or_after m l x) m.steps l h both in
        subst T (sym (closed_new x)) (or_r (at_or_after m s x) (ended x) i)

    shuts : Shuts stepped (closed m t) t m.steps f g fs
    shuts =
        record {
          refits = refits_to (closed m t) (rest (m.task t).finishes) (g ∷ fs) refl (λ f l. refl) (λ f v l. l) (λ v. refl) (ap rest fin);
          fin = ap (λ (z : Task). z.finishes) stepped_own ∙ fin;
          at = ap (λ (z : Task). z.current) stepped_own;
          newest = refl;
          none = none;
          finishes_is = refl;
          before_old = λ x y d.
              closed_before x y ∙ cond_ne y m.steps (at_or_after m s x || ended x) (m.before x y) d ∙ sym (stepped_old x y d);
          joins = joins;
          joined = joined;
        }

    pub close_keeps : Kept (closed m t) (close_ways m t w)
    close_keeps =
        subst (λ z. Kept (closed m t) (shut_by (next_ways m t w) z m.steps)) (sym (ap (λ z. head_or z 0) fin)) (shut_kept step_kept shuts)

  module _ (laws : OrderLaws m) where
    -- the child of a spawn has its step, and t is still where it was
    abbrev child : Task
    child = record { running = true; current = m.steps; finishes = f ∷ [] }

    abbrev born : Order
    born =
        record m {
          steps = m.steps + 1;
          before = λ a b. cond (b == m.steps) (at_or_after m s a) (m.before a b);
          task = put m.task m.tasks child;
          lives = λ g u. (g == f && u == m.tasks) || m.lives g u;
        }

    born_adds : Adds m born w t m.tasks s f (f ∷ [])
    born_adds =
        record {
          run = run;
          at = refl;
          h_in = head_in (w.home s) (m.task t).finishes now.home_last;
          steps_is = refl;
          finishes_is = refl;
          last_same = λ f l. refl;
          lives_more = λ g v l. or_r (g == f && v == m.tasks) (m.lives g v) l;
          lives_new = or_l (f == f && m.tasks == m.tasks) (m.lives f m.tasks) (grind (arith, nat_tests));
          task_new = retask_at m.task m.tasks child
              ∙ ap (λ b. record { running = b; current = m.steps; finishes = f ∷ [] }) (sym (is_true (m.task t).running run));
          task_old = λ v d. retask_off m.task m.tasks child v d;
          which = inr (λ r. let l = laws.task_held m.tasks r in absurd (omega arith), refl);
          before_is = λ a b. refl;
        }

    born_kept : Kept born (grow m.steps s f w)
    born_kept = add_kept k born_adds

    -- the child is another task than t
    other : t ≡ m.tasks → ⊥
    other e = let l = laws.task_held t run in absurd (omega arith)

    same : born.task t ≡ m.task t
    same = retask_off m.task m.tasks child t other

    -- t after the spawn
    abbrev parent : Task
    parent = record (m.task t) { current = m.steps + 1 }

    task_old : (v : ℕ) → (v ≡ t → ⊥) → (spawned m t).task v ≡ born.task v
    task_old v d = grind (arith, nat_tests)

    -- the next step of t after its child's
    before_is : (a b : ℕ) → (spawned m t).before a b ≡ cond (eqb b (m.steps + 1)) (at_or_after born s a) (born.before a b)
    before_is a b = let l = now.current_held in grind (arith, nat_tests)

    parent_adds : Adds born (spawned m t) (grow m.steps s f w) t t s (w.home s) (m.task t).finishes
    parent_adds =
        record {
          run = subst (λ (z : Task). T z.running) (sym same) run;
          at = ap (λ (z : Task). z.current) same;
          h_in = subst (λ (z : Task). In (w.home s) z.finishes) (sym same) home_in;
          steps_is = omega arith;
          finishes_is = refl;
          last_same = λ f l. refl;
          lives_more = λ f v l. l;
          lives_new = born_adds.lives_more (w.home s) t now.lives;
          task_new = retask_off (put m.task t parent) m.tasks child t other ∙ retask_at m.task t parent
              ∙ ap {B = Task} (λ (z : Task). record z { current = m.steps + 1; finishes = (m.task t).finishes }) (sym same);
          task_old = task_old;
          which = inl (refl, sym (put_off w.home m.steps f s (let l = now.current_held in λ e. absurd (omega arith))), ap (λ (z : Task). z.finishes) (sym same));
          before_is = before_is;
        }

    pub spawn_keeps : Kept (spawned m t) (spawn_ways m t w)
    spawn_keeps = add_kept born_kept parent_adds
