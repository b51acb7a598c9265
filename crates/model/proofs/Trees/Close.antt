-- A close keeps the shape: the new step comes past the node of the finish, in which all has ended.
use Rattle.std.proofs.Math.Facts.{yes_and}
use Rattle.std.proofs.Common.{◌≡◌, ℕ, suc, ◌<◌, Bool, true, false, cond, not, ◌&&◌, ◌||◌, T, eqb, ◌⊎◌, List, [], ◌∷◌, ◌++◌, sym, refl, ap, ◌∙◌, subst, inl, inr, append_assoc, arith}
use Rattle.std.proofs.lemmas.Bool.{cases_eq}
use Rattle.std.proofs.lemmas.Bool.Decides.{nat_tests}
use Rattle.model.specs.Lists.{any, below, head_or, rest}
use Rattle.model.specs.Orders.{Order, Task, at_or_after, closed}
use Rattle.model.specs.Labels.{Label, odd, left, over, Under, Low}
use Rattle.model.specs.Shapes.{In, Above, Stack, Runner, Covered, Shape}
use Rattle.model.proofs.Trees.Relabel.{above_in}
use Rattle.model.proofs.Shelf.Tests.{or_r}
use Rattle.model.proofs.Shelf.Lists.{any_below_of, any_below_in}
use Rattle.model.proofs.Trees.Labels.{under_low, low_more, low_turn, low_off, under_cut, left_same, turn_left, turn_right, alike_past}
use Rattle.model.proofs.Trees.Tasks.{IsOpen, retask_case, retask_at, retask_off, at_held, not_at, current_apart}
use Rattle.model.proofs.Trees.Added.{Spot, Fresh, Adds, stack_more, on_other, on_new, added_shape}
use Rattle.model.proofs.Trees.Added.{own_joined, own_here, own_inner, cover}

module _ (m : Order) (lab node : ℕ → Label) (by owner : ℕ → ℕ) (sh : Shape m lab node by owner) (t : ℕ) (run : T (m.task t).running)
    (f g : ℕ) (fs : List ℕ) (fin : (m.task t).finishes ≡ f ∷ (g ∷ fs)) (empty : (u : ℕ) → T (m.lives f u) → ⊥) where
  -- the task t
  abbrev here : Runner m lab node by owner t (m.task t)
  here = sh.runner t run

  -- its current step
  abbrev now : ℕ
  now = (m.task t).current

  -- the order after the close
  abbrev n : Order
  n = closed m t

  -- the task t after the close
  abbrev own : Task
  own = record (m.task t) { current = m.steps; finishes = g ∷ fs }

  own_fresh : Fresh m 1 own.current
  own_fresh = (omega arith, omega arith)

  -- the finishes of t: the one that closes, and those around it
  pub level : Stack m lab node here.path (f ∷ (g ∷ fs))
  level = subst (Stack m lab node here.path) fin here.stack

  -- the node that the finish is a child of
  abbrev pub q : Label
  q = level.0

  -- the turn into the finish there
  abbrev pub k : ℕ
  k = level.1

  pub at_f : node f ≡ q ++ (k ∷ [])
  at_f = level.3

  own_in : (x : ℕ) → In x (f ∷ (g ∷ fs)) → In x (m.task t).finishes
  own_in x i = subst (In x) (sym fin) i

  own_above : (x y : ℕ) → Above x y (f ∷ (g ∷ fs)) → Above x y (m.task t).finishes
  own_above x y a = subst (Above x y) (sym fin) a

  f_held : f < m.finishes
  f_held = here.finish_held f (own_in f (inl refl))

  -- t has opened the finish that closes
  f_owner : owner f ≡ t
  f_owner = grind (arith, own_above)

  not_twice : In f (g ∷ fs) → ⊥
  not_twice i = let h = (here.owns f f (own_above f f (inl (refl, i)))).1 in omega arith

  -- the task that closes is the only one in the finish
  only_own : (u : ℕ) → T (m.task u).running → In f (m.task u).finishes → u ≡ t
  only_own u go i = grind arith

  not_inside : (h : ℕ) → Above h f (f ∷ (g ∷ fs)) → ⊥
  not_inside h (inl a) = not_twice a.1
  not_inside h (inr a) = not_twice (above_in h f (g ∷ fs) a)

  -- the current step or a last step of the finish is x or comes after it
  abbrev Ended : ℕ → Type 0
  Ended x = T (at_or_after m now x) ⊎ ((l : ℕ) × T (m.last f l) × T (at_or_after m l x))

  -- what lies in the finish has ended when it closes
  all_ended : (x : ℕ) → Covered m lab node f x → Ended x
  all_ended x (inl (u, go, i, h)) = inl (subst (λ z. T (at_or_after m (m.task z).current x)) (only_own u go i) h)
  all_ended x (inr (inl c)) = inr c
  all_ended x (inr (inr (u, h, go, a, w))) = grind (arith, nat_tests, only_own, above_in, not_inside)

  -- whether a last step of the finish h is x or comes after it
  abbrev awaited : ℕ → ℕ → Bool
  awaited h x = any (λ l. m.last h l && at_or_after m l x) (below m.steps)

  -- whether x is before the new step
  abbrev joined : ℕ → Bool
  joined x = at_or_after m now x || awaited f x

  before_is : (a b : ℕ) → n.before a b ≡ cond (eqb b m.steps) (joined a) (m.before a b)
  before_is a b = ap (λ z. cond (eqb b m.steps) (at_or_after m now a || awaited (head_or z 0) a) (m.before a b)) fin

  joined_ended : (a : ℕ) → T (joined a) → Ended a
  joined_ended a h = grind (arith, nat_tests, any_below_of)

  ended_joined : (a : ℕ) → Ended a → T (joined a)
  ended_joined a (inl h) = grind arith
  ended_joined a (inr (l, h, i)) =
      let both = yes_and (m.last f l) (at_or_after m l a) h i in
      let k : T (awaited f a) = any_below_in (λ l. m.last f l && at_or_after m l a) m.steps l (sh.last_held f l h).1 both in
      or_r (at_or_after m now a) (awaited f a) k

  ended_held : (a : ℕ) → Ended a → a < m.steps
  ended_held a (inl h) = at_held sh now a here.current_held h
  ended_held a (inr (l, h, i)) = at_held sh l a (sh.last_held f l h).1 i

  now_in : Under (node f) (lab now)
  now_in = (here.turn ∷ [], here.at ∙ ap (λ z. z ++ (here.turn ∷ [])) level.2)

  in_f : (y : Label) → Under (q ++ (k ∷ [])) y → Under (node f) y
  in_f y u = subst (λ z. Under z y) (sym at_f) u

  -- in serial order the current step is the last one of the finish
  now_last : (x : ℕ) → x < m.steps → (x ≡ now → ⊥) → Under (node f) (lab x)
      → (left (lab x) (lab now) ≡ true) × (left (lab now) (lab x) ≡ false)
  unfolding now_in
  now_last x h d (w, e) = go w e
    where
      go : (w : Label) → lab x ≡ node f ++ w → (left (lab x) (lab now) ≡ true) × (left (lab now) (lab x) ≡ false)
      go [] e = grind (arith, left_same)
      go (a ∷ w) e = grind (arith, nat_tests, low_turn, turn_left, turn_right)

  -- what is outside the finish and before a step in it is before the current step
  before_now : (x y : ℕ) → y < m.steps → (Under (q ++ (k ∷ [])) (lab x) → ⊥) → Under (node f) (lab y)
      → T (at_or_after m y x) → T (m.before x now)
  before_now x y i d u a = go (cases_eq x y)
    where
      deep : (y : ℕ) → Under (node f) (lab y) → (w : Label) × (lab y ≡ q ++ (k ∷ w))
      deep y u = (u.0, u.1 ∙ ap (λ z. z ++ u.0) at_f ∙ append_assoc q (k ∷ []) u.0)

      same : x < m.steps → over (lab x) (lab y) ≡ over (lab x) (lab now)
      same h =
          let v = deep y u in
          let w = deep now now_in in
          ap (over (lab x)) v.1
          ∙ (alike_past q k (lab x) k k v.0 w.0 (low_off q k (lab x) (level.5.step_low x h) d) (omega arith) (omega arith)).over_to
          ∙ ap (over (lab x)) (sym w.1)

      go : (x ≡ y) ⊎ (x ≡ y → ⊥) → T (m.before x now)
      go (inl e) = absurd (d (subst (λ z. Under z (lab x)) at_f (subst (λ w. Under (node f) (lab w)) (sym e) u)))
      go (inr c) = grind (arith, nat_tests, same)

  joined_out : (x : ℕ) → Ended x → (Under (q ++ (k ∷ [])) (lab x) → ⊥) → T (m.before x now)
  joined_out x (inl a) d = before_now x now here.current_held d now_in a
  joined_out x (inr (l, i, a)) d = before_now x l (sh.last_held f l i).1 d (sh.last_under f l i) a

  joined_tip : (u : ℕ) → T (m.task u).running → (u ≡ t → ⊥) → Ended (m.task u).current → ⊥
  joined_tip u go d (inl a) = d (current_apart sh u t go run (not_at sh now u go a))
  joined_tip u go d (inr (l, h, a)) = (sh.runner u go).going f l h (not_at sh l u go a)

  not_closed : (y : ℕ) → y < m.finishes → (y ≡ f → ⊥) → node y ≡ q ++ (k ∷ []) → ⊥
  not_closed y h d e = d (sh.node_apart y f h f_held (e ∙ sym at_f))

  close_spot : Spot m lab node t q k joined
  close_spot =
      record {
        even = level.4;
        level = level.5;
        tail = here.turn ∷ [];
        at = here.at ∙ ap (λ z. z ++ (here.turn ∷ [])) (level.2 ∙ at_f) ∙ append_assoc q (k ∷ []) (here.turn ∷ []);
        low_there = λ p i a b. subst (Low p i) at_f (b f f_held);
        latest = λ x h d u. now_last x h d (in_f (lab x) u);
        stays = λ u y go d i.
            not_closed y ((sh.runner u go).finish_held y i) (λ e. d (only_own u go (subst (λ w. In w (m.task u).finishes) e i)));
        outer = λ y h d u.
            let at : Under (node y) (here.path ++ (here.turn ∷ [])) = subst (Under (node y)) here.at u in
            let v = under_low here.path here.turn (node y) here.turn [] (here.node_low y h) (omega arith) at in
            under_cut (node y) q k (subst (Under (node y)) (level.2 ∙ at_f) v) d;
        joined_held = λ x w. ended_held x (joined_ended x w);
        joined_in = λ x h u. ended_joined x (all_ended x (sh.covered t f x run (own_in f (inl refl)) h (in_f (lab x) u)));
        joined_out = λ x w. joined_out x (joined_ended x w);
        joined_before = λ x w. ended_joined x (inl (or_r (eqb x now) (m.before x now) w));
        joined_tip = λ u go d w. joined_tip u go d (joined_ended (m.task u).current w);
      }

  module _ (j : ℕ) (k_j : k < j) (even_j : T (not (odd j))) (lab_own : lab m.steps ≡ q ++ (j ∷ [])) (by_own : by m.steps ≡ t) where
    close_adds : Adds m n lab node t 1 q k joined
    close_adds = grind arith

    keeps : (y : ℕ) → In y (g ∷ fs) → (y < m.finishes) × (node y ≡ q ++ (k ∷ []) → ⊥)
    keeps y i =
        let h : y < m.finishes = here.finish_held y (own_in y (inr i)) in
        grind (arith, nat_tests, not_closed, not_twice)

    on_own : Runner n lab node by owner t own
    on_own =
        on_new sh run close_spot close_adds t own here.held own_fresh by_own (λ x i. here.finish_held x (own_in x (inr i)))
        (λ x i. here.seat x (own_in x (inr i))) (λ x y a. here.owns x y (own_above x y (inr a))) q j lab_own even_j
        (λ x h d. low_more q (suc k) j (lab x) k_j (level.5.step_low x (omega arith)))
        (λ x h. low_more q (suc k) j (node x) k_j (level.5.node_low x h))
        (stack_more sh run close_spot close_adds q (g ∷ fs) keeps level.6)

    -- the task after the close, as `closed` says it
    abbrev closed_task : Task
    closed_task = record (m.task t) { current = m.steps; finishes = rest (m.task t).finishes }

    closed_own : closed_task ≡ own
    closed_own = ap {B = Task} (λ w. record (m.task t) { current = m.steps; finishes = rest w }) fin

    runs_on : (u : ℕ) → T (n.task u).running → Runner n lab node by owner u (n.task u)
    runs_on u =
        retask_case (λ k. T k.running → Runner n lab node by owner u k) m.task t closed_task u
        (λ e go. subst (λ w. Runner n lab node by owner w closed_task) (sym e)
        (subst (Runner n lab node by owner t) (sym closed_own) on_own))
        (λ d go. on_other sh run close_spot close_adds u d go)

    task_own : n.task t ≡ own
    task_own = retask_at m.task t closed_task ∙ closed_own

    task_other : (u : ℕ) → T (m.task u).running → (u ≡ t → ⊥) → n.task u ≡ m.task u
    task_other u go d = retask_off m.task t closed_task u d

    -- the finish x, other than the one that closes, was open
    abbrev OpenBefore : ℕ → Type 0
    OpenBefore x = (x ≡ f → ⊥) × IsOpen m x

    was_open : (v x : ℕ) → T (n.task v).running → In x (n.task v).finishes → OpenBefore x
    was_open v x = grind (arith, nat_tests, closed_own, only_own, not_twice, own_in)

    still_in : (x : ℕ) → (x ≡ f → ⊥) → In x (m.task t).finishes → In x (g ∷ fs)
    still_in x d i = grind arith

    cover_all : (v h x : ℕ) → T (n.task v).running → In h (n.task v).finishes → x < n.steps → Under (node h) (lab x)
        → Covered n lab node h x
    cover_all v h x go i b c = split (was_open v h go i)
      where
        inner : x < m.steps → (y : ℕ) → Above y h (f ∷ (g ∷ fs)) → Under (node y) (lab x) → Covered n lab node h x
        inner l y (inl (e, i)) u =
            own_joined sh run close_spot close_adds own run own_fresh task_own task_other h x i
            (close_spot.joined_in x l (subst (λ w. Under w (lab x)) (ap node e ∙ at_f) u))
        inner l y (inr a) u = own_inner sh run close_spot close_adds own run own_fresh task_own task_other h x y a u

        mine : Fresh m 1 x → In h (g ∷ fs) → Covered n lab node h x
        mine (l, k) i = own_here sh run close_spot close_adds own run own_fresh task_own task_other h x i (omega arith)

        split : OpenBefore h → Covered n lab node h x
        split (d, (u, on, o)) =
            cover sh run close_spot close_adds own run own_fresh task_own task_other h x u on o b c
            (still_in h d) (λ l y a. inner l y (subst (Above y h) fin a)) (λ l i. mine l (still_in h d i))

    pub close_shape : Shape (closed m t) lab node by owner
    close_shape = added_shape sh run close_spot close_adds sh.node_apart runs_on cover_all
