-- An end keeps the shape: what the task covered is now covered by its last step.
use Rattle.std.proofs.Common.{◌≡◌, ℕ, ◌<◌, false, T, ◌⊎◌, [], ◌∷◌, sym, refl, ap, ◌∙◌, subst, inl, inr, arith}
use Rattle.std.proofs.lemmas.Bool.{cases_eq}
use Rattle.std.proofs.lemmas.Bool.Decides.{nat_tests}
use Rattle.model.specs.Lists.{head_or}
use Rattle.model.specs.Orders.{Order, Task, done}
use Rattle.model.specs.Labels.{Label, Under}
use Rattle.model.specs.Trees.{Labelled}
use Rattle.model.specs.Shapes.{In, Above, Stack, Runner, Covered, Shape}
use Rattle.model.proofs.Trees.Labels.{under_more}
use Rattle.model.proofs.Trees.Grow.{runner_grow}
use Rattle.model.proofs.Trees.Tasks.{current_apart, retask_case, retask_off, Goes, Holds, by_task, by_inner, by_last}

module _ (m : Order) (lab node : ℕ → Label) (by owner : ℕ → ℕ) (sh : Shape m lab node by owner) (t : ℕ) (run : T (m.task t).running)
    (f : ℕ) (fin : (m.task t).finishes ≡ f ∷ []) where
  -- the current step of t
  abbrev now : ℕ
  now = (m.task t).current

  -- the order after the end
  abbrev n : Order
  n = done m t

  -- the task t after the end
  abbrev own : Task
  own = record { running = false; current = now; finishes = [] }

  head_is : head_or (m.task t).finishes 0 ≡ f
  head_is = ap (λ z. head_or z 0) fin

  -- the last steps are the old ones, and the task's own
  last_split : (g l : ℕ) → T (n.last g l) → ((g ≡ f) × (l ≡ now)) ⊎ T (m.last g l)
  last_split g l h = grind arith

  -- the task's own is one of the last steps
  last_own : T (n.last f now)
  last_own = grind arith

  last_old : (g l : ℕ) → T (m.last g l) → T (n.last g l)
  last_old g l h = grind arith

  lives_old : (g u : ℕ) → (u ≡ t → ⊥) → T (m.lives g u) → T (n.lives g u)
  lives_old g u d h = grind arith

  f_in : In f (m.task t).finishes
  f_in = subst (In f) (sym fin) (inl refl)

  f_over : Under (node f) (lab now)
  f_over =
      let r : Runner m lab node by owner t (m.task t) = sh.runner t run in
      let over_path : Under (node f) r.path = subst (Stack m lab node r.path) fin r.stack in
      subst (Under (node f)) (sym r.at) (under_more (node f) r.path (r.turn ∷ []) over_path)

  on_other : (u : ℕ) → (u ≡ t → ⊥) → T (m.task u).running → Runner n lab node by owner u (m.task u)
  on_other u d go =
      let v : Runner m lab node by owner u (m.task u) = sh.runner u go in
      runner_grow m n lab node (λ y. ⊥) (λ x h. inl h) (λ f h. inl h) by owner u (m.task u) v
      (omega arith) (omega arith) (omega arith) v.tip
      (λ g l h e. gone g l e (last_split g l h)) (λ g. lives_old g u d) (λ y z. absurd z) (λ x y p i a e l w z. absurd z)
    where
      gone : (g l : ℕ) → (m.task u).current ≡ l → ((g ≡ f) × (l ≡ now)) ⊎ T (m.last g l) → ⊥
      gone g l e (inl (a, b)) = d (current_apart sh u t go run (e ∙ b))
      gone g l e (inr h) = (sh.runner u go).going g l h e

  runs_on : (u : ℕ) → T (n.task u).running → Runner n lab node by owner u (n.task u)
  runs_on u =
      retask_case (λ k. T k.running → Runner n lab node by owner u k) m.task t own u (λ e go. absurd go) (λ d go. on_other u d go)

  task_other : (u : ℕ) → (u ≡ t → ⊥) → n.task u ≡ m.task u
  task_other u d = retask_off m.task t own u d

  was_open : (v x : ℕ) → T (n.task v).running → In x (n.task v).finishes → T (m.task v).running × In x (m.task v).finishes
  was_open v x = grind arith

  cover : (h x : ℕ) → Covered m lab node h x → Covered n lab node h x
  cover h x (inl (u, go, i, c)) = split (cases_eq u t)
    where
      at_f : In h (f ∷ []) → h ≡ f
      at_f (inl e) = e
      at_f (inr i) = absurd i

      split : (u ≡ t) ⊎ (u ≡ t → ⊥) → Covered n lab node h x
      split (inl e) = grind arith
      split (inr d) = by_task n lab node h x u (subst (Goes n h x) (sym (task_other u d)) (go, i, c))
  cover h x (inr (inl (l, i, c))) = by_last n lab node h x l (last_old h l i) c
  cover h x (inr (inr (u, y, go, a, c))) = split (cases_eq u t)
    where
      none : Above y h (f ∷ []) → ⊥
      none (inl (e, i)) = i
      none (inr a) = a

      split : (u ≡ t) ⊎ (u ≡ t → ⊥) → Covered n lab node h x
      split (inl e) = absurd (none (subst (Above y h) fin (subst (λ z. Above y h (m.task z).finishes) e a)))
      split (inr d) = by_inner n lab node h x u y (subst (Holds lab node h x y) (sym (task_other u d)) (go, a, c))

  last_held : (g l : ℕ) → T (n.last g l) → (g < m.finishes) × (l < m.steps)
  last_held g l h = go (last_split g l h)
    where
      go : ((g ≡ f) × (l ≡ now)) ⊎ T (m.last g l) → (g < m.finishes) × (l < m.steps)
      go (inl (a, b)) = let x = (sh.runner t run).finish_held f f_in in let y = (sh.runner t run).current_held in (omega arith, omega arith)
      go (inr k) = sh.last_held g l k

  last_under : (g l : ℕ) → T (n.last g l) → Under (node g) (lab l)
  last_under g l h = grind (arith, nat_tests, f_over, sh.last_under)

  still_labelled : Labelled n lab
  still_labelled =
      let old : Labelled m lab = sh.labelled in
      record { before_is = old.before_is; earlier_is = old.earlier_is; apart = old.apart; leaf = old.leaf }

  pub end_shape : Shape (done m t) lab node by owner
  end_shape =
      record {
        before_held = sh.before_held;
        earlier_held = sh.earlier_held;
        last_held = last_held;
        labelled = still_labelled;
        node_apart = sh.node_apart;
        last_under = last_under;
        runner = runs_on;
        covered = λ v h x go i b c. let w = was_open v h go i in cover h x (sh.covered v h x w.0 w.1 b c);
      }
