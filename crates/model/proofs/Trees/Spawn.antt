-- A spawn keeps the shape: past the current step come the first step of the child, in a task, and the next step of the task itself.
use Rattle.std.proofs.Common.{◌≡◌, ℕ, ◌+◌, ◌<◌, ◌≤◌, true, not, T, ◌⊎◌, [], ◌∷◌, ◌++◌, sym, refl, ap, ◌∙◌, subst, inl, inr, append_assoc, arith}
use Rattle.std.proofs.lemmas.Bool.Decides.{nat_tests}
use Rattle.model.specs.Lists.{head_or, put}
use Rattle.model.specs.Orders.{Order, Task, at_or_after, spawned}
use Rattle.model.specs.Labels.{Label, odd, Under, Low}
use Rattle.model.specs.Shapes.{In, Above, Runner, Covered, Shape}
use Rattle.model.proofs.Trees.Labels.{under_more, low_here, low_more, low_new, low_aside}
use Rattle.model.proofs.Trees.Tasks.{stack_head, stack_in, stack_split, retask_case, retask_at, IsOpen}
use Rattle.model.proofs.Trees.Grow.{Slot}
use Rattle.model.proofs.Trees.Added.{Spot, Fresh, Adds, stack_more, on_other, on_new, own_here, own_inner, cover, added_shape}
use Rattle.model.proofs.Trees.Turns.{old_low, own_keeps, turn_spot}

module _ (m : Order) (lab node : ℕ → Label) (by owner : ℕ → ℕ) (sh : Shape m lab node by owner) (t : ℕ) (run : T (m.task t).running) where
  -- the task t
  abbrev here : Runner m lab node by owner t (m.task t)
  here = sh.runner t run

  -- the new labels come past its current step
  place : Spot m lab node t here.path here.turn (at_or_after m (m.task t).current)
  place = turn_spot sh t run

  -- the order after the spawn
  abbrev n : Order
  n = spawned m t

  module _ (i j : ℕ) (turn_i : here.turn < i) (odd_i : T (odd i)) (i_j : i < j) (even_j : T (not (odd j)))
      (lab_child : lab m.steps ≡ here.path ++ (i ∷ (0 ∷ []))) (lab_own : lab (m.steps + 1) ≡ here.path ++ (j ∷ []))
      (by_child : by m.steps ≡ m.tasks) (by_own : by (m.steps + 1) ≡ t) where
    -- the task t after the spawn
    abbrev own : Task
    own = record (m.task t) { current = m.steps + 1 }

    -- its child, the new task
    abbrev child : Task
    child = record { running = true; current = m.steps; finishes = head_or (m.task t).finishes 0 ∷ [] }

    own_fresh : Fresh m 2 own.current
    own_fresh = (omega arith, omega arith)

    one_of_two : (x : ℕ) → Fresh m 2 x → (x ≡ m.steps) ⊎ (x ≡ m.steps + 1)
    one_of_two x (h, k) = grind arith

    new_slot : (x : ℕ) → Fresh m 2 x → Slot here.path here.turn (lab x)
    new_slot x h = go (one_of_two x h)
      where
        go : (x ≡ m.steps) ⊎ (x ≡ m.steps + 1) → Slot here.path here.turn (lab x)
        go (inl e) = (i, 0 ∷ [], turn_i, ap lab e ∙ lab_child)
        go (inr e) = (j, [], omega arith, ap lab e ∙ lab_own)

    before_old : (a b : ℕ) → (b < m.steps) ⊎ (m.steps + 2 ≤ b) → n.before a b ≡ m.before a b
    before_old a b (inl h) = grind arith
    before_old a b (inr h) = grind arith

    before_new : (a b : ℕ) → Fresh m 2 b → n.before a b ≡ at_or_after m (m.task t).current a
    before_new a b (h, k) = grind arith

    lives_more : (f u : ℕ) → T (m.lives f u) → T (n.lives f u)
    lives_more f u h = grind arith

    spawn_adds : Adds m n lab node t 2 here.path here.turn (at_or_after m (m.task t).current)
    spawn_adds =
        record {
          counts = (refl, omega arith, omega arith);
          lasts = λ f l. refl;
          lives_more = lives_more;
          earlier_new = λ a b. refl;
          before_old = before_old;
          before_new = before_new;
          step_slot = new_slot;
          node_slot = λ f h. inl h;
          in_turn = λ a b h l k.
              record {
                part = here.path;
                near = i;
                far = j;
                near_tail = 0 ∷ [];
                far_tail = [];
                near_is = ap lab (omega arith) ∙ lab_child;
                far_is = ap lab (omega arith) ∙ lab_own;
                apart = i_j;
                tasked = odd_i;
              };
        }

    seat_more : (f u v : ℕ) → (owner f ≡ v) ⊎ T (m.lives f u) → (owner f ≡ v) ⊎ T (n.lives f u)
    seat_more f u v (inl e) = inl e
    seat_more f u v (inr l) = inr (lives_more f u l)

    own_low : (x : ℕ) → x < n.steps → (x ≡ own.current → ⊥) → Low here.path j (lab x)
    own_low x h d = grind (arith, nat_tests, low_here, low_more, old_low sh t run, one_of_two)

    child_low : (x : ℕ) → x < n.steps → (x ≡ child.current → ⊥) → Low (here.path ++ (i ∷ [])) 0 (lab x)
    child_low x h d = grind (arith, nat_tests, low_aside, low_new, old_low sh t run, one_of_two)

    -- the innermost finish of t, which the child lives in
    abbrev inner : ℕ
    inner = head_or (m.task t).finishes 0

    inner_in : In inner (m.task t).finishes
    inner_in = stack_in m lab node here.path (m.task t).finishes here.stack

    inner_over : Under (node inner) here.path
    inner_over = stack_head m lab node here.path (m.task t).finishes here.stack

    child_held : (f : ℕ) → In f (inner ∷ []) → f < n.finishes
    child_held f (inl e) = here.finish_held f (subst (λ z. In z (m.task t).finishes) (sym e) inner_in)
    child_held f (inr e) = absurd e

    child_seat : (f : ℕ) → In f (inner ∷ []) → (owner f ≡ m.tasks) ⊎ T (n.lives f m.tasks)
    child_seat f (inl e) = inr (grind arith)
    child_seat f (inr e) = absurd e

    child_owns : (g f : ℕ) → Above g f (inner ∷ []) → (owner g ≡ m.tasks) × (f < g)
    child_owns g f (inl e) = absurd e.1
    child_owns g f (inr e) = absurd e

    on_own : Runner n lab node by owner t own
    on_own =
        on_new sh run place spawn_adds t own (let h = here.held in omega arith) own_fresh by_own here.finish_held
        (λ f i. seat_more f t t (here.seat f i)) here.owns here.path j lab_own even_j own_low
        (λ f h. low_more here.path here.turn j (node f) (omega arith) (here.node_low f h))
        (stack_more sh run place spawn_adds here.path (m.task t).finishes (own_keeps sh t run) here.stack)

    on_child : Runner n lab node by owner m.tasks child
    on_child =
        on_new sh run place spawn_adds m.tasks child (omega arith) (omega arith, omega arith) by_child child_held child_seat child_owns
        (here.path ++ (i ∷ [])) 0 (lab_child ∙ sym (append_assoc here.path (i ∷ []) (0 ∷ []))) tt child_low
        (λ f h. low_new here.path here.turn i [] 0 (node f) (omega arith) (here.node_low f h))
        (under_more (node inner) here.path (i ∷ []) inner_over)

    runs_on : (u : ℕ) → T (n.task u).running → Runner n lab node by owner u (n.task u)
    runs_on u =
        retask_case (λ k. T k.running → Runner n lab node by owner u k) (put m.task t own) m.tasks child u
        (λ e go. subst (λ z. Runner n lab node by owner z child) (sym e) on_child)
        (λ d. retask_case (λ k. T k.running → Runner n lab node by owner u k) m.task t own u
        (λ e go. subst (λ z. Runner n lab node by owner z own) (sym e) on_own)
        (λ d go. on_other sh run place spawn_adds u d go))

    task_child : n.task m.tasks ≡ child
    task_child = retask_at (put m.task t own) m.tasks child

    task_own : n.task t ≡ own
    task_own = grind arith

    task_other : (u : ℕ) → T (m.task u).running → (u ≡ t → ⊥) → n.task u ≡ m.task u
    task_other u go d = grind arith

    -- a finish that is open was open
    was_open : (v f : ℕ) → T (n.task v).running → In f (n.task v).finishes → IsOpen m f
    was_open v f = grind arith

    inside : (f x g : ℕ) → Above g f (m.task t).finishes → Under (node g) (lab x) → Covered n lab node f x
    inside = own_inner sh run place spawn_adds own run own_fresh task_own task_other

    -- the innermost finish covers the child's step by the child, the others by the innermost one
    cover_new : (f x : ℕ) → Slot here.path here.turn (lab x) → (x ≡ m.steps) ⊎ (x ≡ m.steps + 1) → In f (m.task t).finishes
        → Covered n lab node f x
    cover_new f x z (inl e) i = split (stack_split f (m.task t).finishes i)
      where
        split : (f ≡ inner) ⊎ Above inner f (m.task t).finishes → Covered n lab node f x
        split (inl k) = grind (arith, task_child)
        split (inr a) =
            inside f x inner a
            (subst (Under (node inner)) (sym z.3) (under_more (node inner) here.path (z.0 ∷ z.1) inner_over))
    cover_new f x z (inr e) i = own_here sh run place spawn_adds own run own_fresh task_own task_other f x i e

    cover_all : (v f x : ℕ) → T (n.task v).running → In f (n.task v).finishes → x < n.steps → Under (node f) (lab x)
        → Covered n lab node f x
    cover_all v f x go o h k =
        let w = was_open v f go o in
        cover sh run place spawn_adds own run own_fresh task_own task_other f x w.0 w.1 w.2 h k (λ i. i) (λ l. inside f x)
        (λ l. cover_new f x (new_slot x l) (one_of_two x l))

    pub spawn_shape : Shape (spawned m t) lab node by owner
    spawn_shape = added_shape sh run place spawn_adds sh.node_apart runs_on cover_all
