-- An open keeps the shape: past the current step comes the node of the new finish, and the new step is the first one under it.
use Rattle.std.proofs.lemmas.Bool.Decides.{nat_tests}
use Rattle.std.proofs.Common.{◌≡◌, ℕ, suc, ◌<◌, ◌≤◌, not, T, ◌⊎◌, List, [], ◌∷◌, ◌++◌, sym, refl, ap, ◌∙◌, subst, inl, inr, append_assoc, arith}
use Rattle.std.proofs.lemmas.Bool.{cases_lt}
use Rattle.model.specs.Orders.{Order, Task, at_or_after, opened}
use Rattle.model.specs.Labels.{Label, odd, Under, Low}
use Rattle.model.specs.Shapes.{In, Above, Lows, Stack, Runner, Covered, Shape}
use Rattle.model.proofs.Trees.Labels.{low_here, low_more, low_new, low_self, low_turn}
use Rattle.model.proofs.Trees.Tasks.{IsOpen, retask_case, retask_at, retask_off}
use Rattle.model.proofs.Trees.Grow.{Slot}
use Rattle.model.proofs.Trees.Added.{one_added, Spot, Fresh, Adds, stack_more, on_other, on_new, own_here, own_inner, cover, added_shape}
use Rattle.model.proofs.Trees.Turns.{old_low, own_keeps, turn_spot}

-- one more finish on a stack
stack_push : (n : Order) (lab node : ℕ → Label) (p : Label) (f : ℕ) (q : Label) (i : ℕ) (fs : List ℕ)
    → p ≡ node f → node f ≡ q ++ (i ∷ []) → T (not (odd i)) → Lows n lab node q (suc i)
    → Stack n lab node q fs → Stack n lab node p (f ∷ fs)
stack_push n lab node p f q i [] a b c l s = absurd s
stack_push n lab node p f q i (g ∷ fs) a b c l s = (q, i, a, b, c, l, s)

module _ (m : Order) (lab node : ℕ → Label) (by owner : ℕ → ℕ) (sh : Shape m lab node by owner) (t : ℕ) (run : T (m.task t).running) where
  -- the task t
  abbrev here : Runner m lab node by owner t (m.task t)
  here = sh.runner t run

  -- the new labels come past its current step
  place : Spot m lab node t here.path here.turn (at_or_after m (m.task t).current)
  place = turn_spot sh t run

  -- the order after the open
  abbrev n : Order
  n = opened m t

  module _ (i : ℕ) (turn_i : here.turn < i) (even_i : T (not (odd i)))
      (lab_own : lab m.steps ≡ here.path ++ (i ∷ (0 ∷ []))) (node_own : node m.finishes ≡ here.path ++ (i ∷ []))
      (by_own : by m.steps ≡ t) (owner_own : owner m.finishes ≡ t) where
    -- the task t after the open
    abbrev own : Task
    own = record (m.task t) { current = m.steps; finishes = m.finishes ∷ (m.task t).finishes }

    own_fresh : Fresh m 1 own.current
    own_fresh = (omega arith, omega arith)

    node_slot : (f : ℕ) → f < n.finishes → (f < m.finishes) ⊎ Slot here.path here.turn (node f)
    node_slot f h = go (cases_lt f m.finishes)
      where
        go : (f < m.finishes) ⊎ (m.finishes ≤ f) → (f < m.finishes) ⊎ Slot here.path here.turn (node f)
        go (inl l) = inl l
        go (inr l) = inr (i, [], turn_i, ap node (omega arith) ∙ node_own)

    open_adds : Adds m n lab node t 1 here.path here.turn (at_or_after m (m.task t).current)
    open_adds =
        one_added (refl, omega arith, omega arith) (λ f l. refl) (λ f u h. h) (λ a b. refl) (λ a b. refl)
        (i, 0 ∷ [], turn_i, lab_own) node_slot

    own_low : (x : ℕ) → x < n.steps → (x ≡ m.steps → ⊥) → Low (node m.finishes) 0 (lab x)
    own_low x h d = grind (arith, nat_tests, low_new, old_low sh t run)

    own_node : (f : ℕ) → f < n.finishes → Low (node m.finishes) 0 (node f)
    own_node f h = grind (arith, nat_tests, low_new, low_self)

    -- the node of the new finish is the rightmost child
    level : Lows n lab node here.path (suc i)
    level = record { step_low = λ x h. on_step x h (cases_lt x m.steps); node_low = λ f h. on_node f h (cases_lt f m.finishes) }
      where
        on_step : (x : ℕ) → x < n.steps → (x < m.steps) ⊎ (m.steps ≤ x) → Low here.path (suc i) (lab x)
        on_step x h (inl l) = low_more here.path (suc here.turn) (suc i) (lab x) (omega arith) (old_low sh t run x l)
        on_step x h (inr l) = grind (arith, low_here)

        on_node : (f : ℕ) → f < n.finishes → (f < m.finishes) ⊎ (m.finishes ≤ f) → Low here.path (suc i) (node f)
        on_node f h (inl l) = low_more here.path here.turn (suc i) (node f) (omega arith) (here.node_low f l)
        on_node f h (inr l) = grind (arith, low_here)

    own_held : (f : ℕ) → In f own.finishes → f < n.finishes
    own_held f (inl e) = omega arith
    own_held f (inr i) = let h = here.finish_held f i in omega arith

    own_seat : (f : ℕ) → In f own.finishes → (owner f ≡ t) ⊎ T (m.lives f t)
    own_seat f (inl e) = inl (ap owner e ∙ owner_own)
    own_seat f (inr i) = here.seat f i

    own_owns : (g f : ℕ) → Above g f own.finishes → (owner g ≡ t) × (f < g)
    own_owns g f (inl a) = (ap owner a.0 ∙ owner_own, let e = a.0 in let h = here.finish_held f a.1 in omega arith)
    own_owns g f (inr a) = here.owns g f a

    on_own : Runner n lab node by owner t own
    on_own =
        on_new sh run place open_adds t own here.held own_fresh by_own own_held own_seat own_owns (node m.finishes) 0
        (lab_own ∙ sym (append_assoc here.path (i ∷ []) (0 ∷ [])) ∙ ap (λ z. z ++ (0 ∷ [])) (sym node_own)) tt own_low own_node
        (stack_push n lab node (node m.finishes) m.finishes here.path i (m.task t).finishes refl node_own even_i level
        (stack_more sh run place open_adds here.path (m.task t).finishes (own_keeps sh t run) here.stack))

    runs_on : (u : ℕ) → T (n.task u).running → Runner n lab node by owner u (n.task u)
    runs_on u =
        retask_case (λ k. T k.running → Runner n lab node by owner u k) m.task t own u
        (λ e go. subst (λ z. Runner n lab node by owner z own) (sym e) on_own)
        (λ d go. on_other sh run place open_adds u d go)

    task_own : n.task t ≡ own
    task_own = retask_at m.task t own

    task_other : (u : ℕ) → T (m.task u).running → (u ≡ t → ⊥) → n.task u ≡ m.task u
    task_other u go d = retask_off m.task t own u d

    -- the finish f is the new one, or was open
    abbrev OpenBefore : ℕ → Type 0
    OpenBefore f = (f ≡ m.finishes) ⊎ IsOpen m f

    was_open : (v f : ℕ) → T (n.task v).running → In f (n.task v).finishes → OpenBefore f
    was_open v f = grind arith

    own_task : (f x : ℕ) → Fresh m 1 x → In f own.finishes → Covered n lab node f x
    own_task f x (h, k) i = own_here sh run place open_adds own run own_fresh task_own task_other f x i (omega arith)

    cover_all : (v f x : ℕ) → T (n.task v).running → In f (n.task v).finishes → x < n.steps → Under (node f) (lab x)
        → Covered n lab node f x
    cover_all v f x go o h k = split (was_open v f go o) (cases_lt x m.steps)
      where
        none_yet : f ≡ m.finishes → x < m.steps → ⊥
        none_yet e l = grind (arith, nat_tests, append_assoc, old_low sh t run, low_turn)

        split : OpenBefore f → (x < m.steps) ⊎ (m.steps ≤ x) → Covered n lab node f x
        split (inl e) (inl l) = absurd (none_yet e l)
        split (inl e) (inr l) = own_task f x (l, h) (inl e)
        split (inr (u, on, w)) c =
            cover sh run place open_adds own run own_fresh task_own task_other f x u on w h k inr
            (λ l y a. own_inner sh run place open_adds own run own_fresh task_own task_other f x y (inr a))
            (λ l i. own_task f x l (inr i))

    node_apart : (f g : ℕ) → f < n.finishes → g < n.finishes → node f ≡ node g → f ≡ g
    node_apart f g h k e = grind (arith, nat_tests, low_turn, sh.node_apart)

    pub open_shape : Shape (opened m t) lab node by owner
    open_shape = added_shape sh run place open_adds node_apart runs_on cover_all
