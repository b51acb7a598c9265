-- A call that adds steps keeps the shape: the new labels lie past a child of a node, and what lies under that child ends before them.
use Rattle.std.proofs.Common.{◌≡◌, ℕ, suc, ◌+◌, ◌<◌, ◌≤◌, Bool, true, false, cond, not, T, eqb, ltb, ◌⊎◌, List, [], ◌∷◌, ◌++◌, sym, ap, ◌∙◌, subst, ap₂, inl, inr, append_assoc, arith}
use Rattle.std.proofs.lemmas.Bool.{cases_eq, cases_order, cond-true, cond-false, eq-eqb, ne_eqb}
use Rattle.std.proofs.lemmas.Bool.Decides.{nat_tests}
use Rattle.model.specs.Orders.{Order, Task, at_or_after, earlier_with}
use Rattle.model.specs.Labels.{Label, odd, left, over, Under, Low}
use Rattle.model.specs.Trees.{Labelled}
use Rattle.model.specs.Shapes.{In, Above, Lows, Stack, Runner, Covered, Shape}
use Rattle.model.proofs.Shelf.Tests.{is_false, is_true}
use Rattle.model.proofs.Trees.Labels.{Alike, alike_past, left_none, over_none, turn_left, turn_right, turn_over, turn_back}
use Rattle.model.proofs.Trees.Labels.{low_off, low_turn, under_tried, under_low, under_more, under_refl, not_under}
use Rattle.model.proofs.Trees.Labels.{Beside, beside_left, beside_right, beside_over, beside_back, beside_under, beside_above}
use Rattle.model.proofs.Trees.Relabel.{above_in, above_top}
use Rattle.model.proofs.Trees.Tasks.{Inner, Holds, by_task, by_inner, no_before, current_apart, current_covered}
use Rattle.model.proofs.Trees.Grow.{Slot, slot_low, stack_grow, runner_grow}

-- the child k of the node q: the current step of the task t, or a finish that t closes
-- `joins` tells which steps are before the new ones, which come next to it
pub record Spot (m : Order) (lab node : ℕ → Label) (t : ℕ) (q : Label) (k : ℕ) (joins : ℕ → Bool) : Type 0 where
  pub even : T (not (odd k))
  -- it is the rightmost child, and the current step lies under it
  pub level : Lows m lab node q (suc k)
  pub tail : Label
  pub at : lab (m.task t).current ≡ q ++ (k ∷ tail)
  -- what is low at the current step and at all finishes is low there
  pub low_there : (p : Label) (i : ℕ) → Low p i (lab (m.task t).current) → ((f : ℕ) → f < m.finishes → Low p i (node f))
      → Low p i (q ++ (k ∷ []))
  -- the current step is the last one under it
  pub latest : (x : ℕ) → x < m.steps → (x ≡ (m.task t).current → ⊥) → Under (q ++ (k ∷ [])) (lab x)
      → (left (lab x) (lab (m.task t).current) ≡ true) × (left (lab (m.task t).current) (lab x) ≡ false)
  -- it is no finish of another task
  pub stays : (u y : ℕ) → T (m.task u).running → (u ≡ t → ⊥) → In y (m.task u).finishes → node y ≡ q ++ (k ∷ []) → ⊥
  -- a finish that the current step lies in, other than it, lies over q
  pub outer : (y : ℕ) → y < m.finishes → (node y ≡ q ++ (k ∷ []) → ⊥) → Under (node y) (lab (m.task t).current) → Under (node y) q
  -- what joins: all steps under it, of the others those before the current step, and none that another task is on
  pub joined_held : (x : ℕ) → T (joins x) → x < m.steps
  pub joined_in : (x : ℕ) → x < m.steps → Under (q ++ (k ∷ [])) (lab x) → T (joins x)
  pub joined_out : (x : ℕ) → T (joins x) → (Under (q ++ (k ∷ [])) (lab x) → ⊥) → T (m.before x (m.task t).current)
  pub joined_before : (x : ℕ) → T (m.before x (m.task t).current) → T (joins x)
  pub joined_tip : (u : ℕ) → T (m.task u).running → (u ≡ t → ⊥) → T (joins (m.task u).current) → ⊥

-- one of the new steps
abbrev pub Fresh : Order → ℕ → ℕ → Type 0
Fresh m new x = (m.steps ≤ x) × (x < m.steps + new)

-- the order n is m with new steps past that child
pub record Adds (m n : Order) (lab node : ℕ → Label) (t new : ℕ) (q : Label) (k : ℕ) (joins : ℕ → Bool) : Type 0 where
  -- how many there are, who lives where, and who ended where
  pub counts : (n.steps ≡ m.steps + new) × (m.tasks ≤ n.tasks) × (m.finishes ≤ n.finishes)
  pub lasts : (f l : ℕ) → n.last f l ≡ m.last f l
  pub lives_more : (f u : ℕ) → T (m.lives f u) → T (n.lives f u)
  -- the new steps stand straight after the current one, and what joins is before them
  pub earlier_new : (a b : ℕ) → n.earlier a b ≡ earlier_with m (m.task t).current new a b
  pub before_old : (a b : ℕ) → (b < m.steps) ⊎ (m.steps + new ≤ b) → n.before a b ≡ m.before a b
  pub before_new : (a b : ℕ) → Fresh m new b → n.before a b ≡ joins a
  -- their labels, and that of a new finish, lie past the child; of two new steps the first is in a task beside the second
  pub step_slot : (x : ℕ) → Fresh m new x → Slot q k (lab x)
  pub node_slot : (f : ℕ) → f < n.finishes → (f < m.finishes) ⊎ Slot q k (node f)
  pub in_turn : (a b : ℕ) → m.steps ≤ a → a < b → b < m.steps + new → Beside (lab a) (lab b)

-- one new step, the last one
pub one_added : {m n : Order} {lab node : ℕ → Label} {t : ℕ} {q : Label} {k : ℕ} {joins : ℕ → Bool}
    → (n.steps ≡ m.steps + 1) × (m.tasks ≤ n.tasks) × (m.finishes ≤ n.finishes)
    → ((f l : ℕ) → n.last f l ≡ m.last f l) → ((f u : ℕ) → T (m.lives f u) → T (n.lives f u))
    → ((a b : ℕ) → n.earlier a b ≡ earlier_with m (m.task t).current 1 a b)
    → ((a b : ℕ) → n.before a b ≡ cond (eqb b m.steps) (joins a) (m.before a b)) → Slot q k (lab m.steps)
    → ((f : ℕ) → f < n.finishes → (f < m.finishes) ⊎ Slot q k (node f)) → Adds m n lab node t 1 q k joins
one_added {m = m} {n = n} {lab = lab} {q = q} {k = k} {joins = joins} counts lasts lives earlier before step_slot node_slot =
    record {
      counts = counts;
      lasts = lasts;
      lives_more = lives;
      earlier_new = earlier;
      before_old = λ a b h. before a b ∙ cond-false (eqb b m.steps) (joins a) (m.before a b) (ne_eqb b m.steps (off b h));
      before_new = λ a b h. before a b ∙ cond-true (eqb b m.steps) (joins a) (m.before a b) (eq-eqb b m.steps (one b h));
      step_slot = λ x h. subst (λ y. Slot q k (lab y)) (sym (one x h)) step_slot;
      node_slot = node_slot;
      in_turn = λ a b h l i. let z : ⊥ = omega arith in absurd z;
    }
  where
    one : (x : ℕ) → Fresh m 1 x → x ≡ m.steps
    one x (h, i) = omega arith

    off : (b : ℕ) → (b < m.steps) ⊎ (m.steps + 1 ≤ b) → b ≡ m.steps → ⊥
    off b (inl l) e = omega arith
    off b (inr l) e = omega arith

-- the label z stands straight after the step `now`
record After (m : Order) (lab : ℕ → Label) (now : ℕ) (z : Label) : Type 0 where
  -- to every other step it stands as `now` does, and it is over none
  pub left_to : (x : ℕ) → x < m.steps → (x ≡ now → ⊥) → left (lab x) z ≡ left (lab x) (lab now)
  pub left_from : (x : ℕ) → x < m.steps → (x ≡ now → ⊥) → left z (lab x) ≡ left (lab now) (lab x)
  pub over_from : (x : ℕ) → x < m.steps → over z (lab x) ≡ false
  -- and it stands to the right of `now`
  pub own_to : left (lab now) z ≡ true
  pub own_from : left z (lab now) ≡ false

-- serial order with the new steps is told by their labels
module _ (m : Order) (lab : ℕ → Label) (now new : ℕ) (now_held : now < m.steps)
    (old : (a b : ℕ) → a < m.steps → b < m.steps → m.earlier a b ≡ left (lab a) (lab b))
    (fresh_after : (x : ℕ) → Fresh m new x → After m lab now (lab x))
    (news : (a b : ℕ) → Fresh m new a → Fresh m new b → left (lab a) (lab b) ≡ ltb a b) where
  earlier_grow : (a b : ℕ) → a < m.steps + new → b < m.steps + new → earlier_with m now new a b ≡ left (lab a) (lab b)
  earlier_grow a b h k = grind (arith, nat_tests, left_none, now_held, fresh_after)

module _ {m n : Order} {lab node : ℕ → Label} {by owner : ℕ → ℕ} (sh : Shape m lab node by owner) {t : ℕ} (run : T (m.task t).running)
    {new : ℕ} {q : Label} {k : ℕ} {joins : ℕ → Bool} (place : Spot m lab node t q k joins) (grown : Adds m n lab node t new q k joins) where
  -- the current step of t
  abbrev now : ℕ
  now = (m.task t).current

  now_held : now < m.steps
  now_held = (sh.runner t run).current_held

  -- the child k of the node q
  abbrev child : Label
  child = q ++ (k ∷ [])

  tail_of : (y : Label) → Under child y → (w : Label) × (y ≡ q ++ (k ∷ w))
  tail_of y u = (u.0, u.1 ∙ append_assoc q (k ∷ []) u.0)

  now_under : Under child (lab now)
  now_under = (place.tail, place.at ∙ sym (append_assoc q (k ∷ []) place.tail))

  -- to what is not under the child, the new labels look like the current step
  as_now : (x : ℕ) → x < m.steps → (Under child (lab x) → ⊥) → (z : Label) → Slot q k z → Alike (lab x) z (lab now)
  as_now x h d z (j, w, l, e) =
      subst (λ y. Alike (lab x) y (lab now)) (sym e)
      (subst (Alike (lab x) (q ++ (j ∷ w))) (sym place.at)
      (alike_past q k (lab x) j k w place.tail (low_off q k (lab x) (place.level.step_low x h) d) (omega arith) (omega arith)))

  after_slot : (z : Label) → Slot q k z → After m lab now z
  after_slot z (j, w, l, e) =
      record {
        left_to = λ x a d. to x a d (under_tried child (lab x));
        left_from = λ x a d. from x a d (under_tried child (lab x));
        over_from = λ x a. back x a (under_tried child (lab x));
        own_to = ap₂ left place.at e ∙ turn_left q k j place.tail w l;
        own_from = ap₂ left e place.at ∙ turn_right q k j place.tail w l;
      }
    where
      to : (x : ℕ) → x < m.steps → (x ≡ now → ⊥) → Under child (lab x) ⊎ (Under child (lab x) → ⊥)
          → left (lab x) z ≡ left (lab x) (lab now)
      to x a d (inl u) =
          let v = tail_of (lab x) u in
          grind (arith, turn_left)
      to x a d (inr u) = (as_now x a u z (j, w, l, e)).left_to

      from : (x : ℕ) → x < m.steps → (x ≡ now → ⊥) → Under child (lab x) ⊎ (Under child (lab x) → ⊥)
          → left z (lab x) ≡ left (lab now) (lab x)
      from x a d (inl u) =
          let v = tail_of (lab x) u in
          grind (arith, turn_right)
      from x a d (inr u) = (as_now x a u z (j, w, l, e)).left_from

      back : (x : ℕ) → x < m.steps → Under child (lab x) ⊎ (Under child (lab x) → ⊥) → over z (lab x) ≡ false
      back x a (inl u) = let v = tail_of (lab x) u in ap₂ over e v.1 ∙ turn_back q k j v.0 w l
      back x a (inr u) =
          (as_now x a u z (j, w, l, e)).over_from
          ∙ sym (sh.labelled.before_is now x now_held a) ∙ is_false (m.before now x) ((sh.runner t run).tip x)

  fresh_after : (x : ℕ) → Fresh m new x → After m lab now (lab x)
  fresh_after x h = after_slot (lab x) (grown.step_slot x h)

  -- what joins is what lies over the new labels
  joins_is : (x : ℕ) → x < m.steps → (z : Label) → Slot q k z → joins x ≡ over (lab x) z
  joins_is x h z (j, w, l, e) = go (under_tried child (lab x))
    where
      go : Under child (lab x) ⊎ (Under child (lab x) → ⊥) → joins x ≡ over (lab x) z
      go (inl u) =
          let v = tail_of (lab x) u in
          let o : over (lab x) z ≡ true = ap₂ over v.1 e ∙ turn_over q k j v.0 w l ∙ is_true (not (odd k)) place.even in
          is_true (joins x) (place.joined_in x h u) ∙ sym o
      go (inr d) =
          let b : m.before x now ≡ over (lab x) (lab now) = sh.labelled.before_is x now h now_held in
          let i : over (lab x) z ≡ m.before x now = (as_now x h d z (j, w, l, e)).over_to ∙ sym b in
          grind arith

  -- a step is an old one or a new one
  old_new : (x : ℕ) → x < n.steps → (x < m.steps) ⊎ Fresh m new x
  old_new x h = grind arith

  -- two new steps
  news_left : (a b : ℕ) → Fresh m new a → Fresh m new b → left (lab a) (lab b) ≡ ltb a b
  news_left a b (h, i) (u, v) = grind (arith, nat_tests, left_none, beside_left, beside_right)

  news_over : (a b : ℕ) → Fresh m new a → Fresh m new b → over (lab a) (lab b) ≡ false
  news_over a b (h, i) (u, v) = grind (arith, nat_tests, over_none, beside_over, grown.in_turn, beside_back)

  news_leaf : (a b : ℕ) → Fresh m new a → Fresh m new b → Under (lab a) (lab b) → a ≡ b
  news_leaf a b (h, i) (u, v) w = go (cases_order a b)
    where
      go : (a ≡ b) ⊎ ((a < b) ⊎ (b < a)) → a ≡ b
      go (inl e) = e
      go (inr (inl l)) = absurd (beside_under (lab a) (lab b) (grown.in_turn a b h l v) w)
      go (inr (inr l)) = absurd (beside_above (lab b) (lab a) (grown.in_turn b a u l i) w)

  -- only old steps are before another
  before_from : (a b : ℕ) → T (n.before a b) → (a < m.steps) × (b < m.steps + new)
  before_from a b h = grind arith

  before_is : (a b : ℕ) → a < n.steps → b < n.steps → n.before a b ≡ over (lab a) (lab b)
  before_is a b h i = go (old_new a h) (old_new b i)
    where
      go : (a < m.steps) ⊎ Fresh m new a → (b < m.steps) ⊎ Fresh m new b → n.before a b ≡ over (lab a) (lab b)
      go (inl x) (inl y) = grown.before_old a b (inl y) ∙ sh.labelled.before_is a b x y
      go (inl x) (inr y) = grown.before_new a b y ∙ joins_is a x (lab b) (grown.step_slot b y)
      go (inr x) (inl y) = grown.before_old a b (inl y) ∙ no_before sh a b x.0 ∙ sym ((fresh_after a x).over_from b y)
      go (inr x) (inr y) =
          let none : joins a ≡ false = is_false (joins a) (λ z. let v = place.joined_held a z in let l = x.0 in omega arith) in
          grown.before_new a b y ∙ none ∙ sym (news_over a b x y)

  earlier_is : (a b : ℕ) → a < n.steps → b < n.steps → n.earlier a b ≡ left (lab a) (lab b)
  earlier_is a b h i =
      let e = grown.counts.0 in
      grown.earlier_new a b
      ∙ earlier_grow m lab now new now_held sh.labelled.earlier_is fresh_after news_left a b (omega arith) (omega arith)

  -- new labels are leaves too
  leaf : (a b : ℕ) → a < n.steps → b < n.steps → Under (lab a) (lab b) → a ≡ b
  leaf a b h i u = go (old_new a h) (old_new b i)
    where
      old_on : a < m.steps → Fresh m new b → ⊥
      old_on x y =
          let z : Slot q k (lab b) = grown.step_slot b y in
          let low : Low q (suc k) (lab a) = place.level.step_low a x in
          let v : Under (lab a) q = under_low q (suc k) (lab a) z.0 z.1 low z.2 (subst (Under (lab a)) z.3 u) in
          let w : Under (lab a) (lab now) = subst (Under (lab a)) (sym place.at) (under_more (lab a) q (k ∷ place.tail) v) in
          let e : a ≡ now = sh.labelled.leaf a now x now_held w in
          not_under q k place.tail (subst (λ w. Under w q) (ap lab e ∙ place.at) v)

      new_on : Fresh m new a → b < m.steps → ⊥
      new_on x y =
          let z : Slot q k (lab a) = grown.step_slot a x in
          let e : lab b ≡ q ++ (z.0 ∷ (z.1 ++ u.0)) = u.1 ∙ ap (λ w. w ++ u.0) z.3 ∙ append_assoc q (z.0 ∷ z.1) u.0 in
          let l : z.0 < suc k = low_turn q (suc k) z.0 (z.1 ++ u.0) (subst (Low q (suc k)) e (place.level.step_low b y)) in
          let j : k < z.0 = z.2 in
          omega arith

      go : (a < m.steps) ⊎ Fresh m new a → (b < m.steps) ⊎ Fresh m new b → a ≡ b
      go (inl x) (inl y) = sh.labelled.leaf a b x y u
      go (inl x) (inr y) = absurd (old_on x y)
      go (inr x) (inl y) = absurd (new_on x y)
      go (inr x) (inr y) = news_leaf a b x y u

  still_labelled : Labelled n lab
  still_labelled =
      record {
        before_is = before_is;
        earlier_is = earlier_is;
        apart = λ a b h i e. leaf a b h i (subst (Under (lab a)) e (under_refl (lab a)));
        leaf = leaf;
      }

  more_steps : (x : ℕ) → x < n.steps → (x < m.steps) ⊎ Slot q k (lab x)
  more_steps x h = grind arith

  -- the new labels fit the level of a finish other than the child
  level_fits : (y : ℕ) → y < m.finishes → (node y ≡ child → ⊥)
      → (p : Label) (i : ℕ) → node y ≡ p ++ (i ∷ []) → Lows m lab node p (suc i) → (z : Label) → Slot q k z → Low p (suc i) z
  level_fits y h d p i e l = grind (arith, nat_tests, slot_low)

  -- a stack goes on if the child is no finish in it
  pub stack_more : (p : Label) (fs : List ℕ) → ((y : ℕ) → In y fs → (y < m.finishes) × (node y ≡ child → ⊥))
      → Stack m lab node p fs → Stack n lab node p fs
  stack_more p fs keeps w =
      stack_grow m n lab node (Slot q k) more_steps grown.node_slot p fs
      (λ f g p i a. let v = keeps f (above_top f g fs a) in level_fits f v.0 v.1 p i) w

  -- the other tasks go on
  pub on_other : (u : ℕ) → (u ≡ t → ⊥) → T (m.task u).running → Runner n lab node by owner u (m.task u)
  on_other u d go =
      runner_grow m n lab node (Slot q k) more_steps grown.node_slot by owner u (m.task u) (sh.runner u go)
      grown.counts.1 (let e = grown.counts.0 in omega arith) grown.counts.2
      tip (λ f l h. (sh.runner u go).going f l (subst T (grown.lasts f l) h)) (λ f. grown.lives_more f u) top levels
    where
      levels : (f g : ℕ) (p : Label) (i : ℕ) → Above f g (m.task u).finishes → node f ≡ p ++ (i ∷ []) → Lows m lab node p (suc i)
          → (y : Label) → Slot q k y → Low p (suc i) y
      levels f g p i a =
          let j = above_top f g (m.task u).finishes a in
          level_fits f ((sh.runner u go).finish_held f j) (place.stays u f go d j) p i

      tip : (b : ℕ) → T (n.before (m.task u).current b) → ⊥
      tip b h = grind arith

      top : (y : Label) → Slot q k y → Low (sh.runner u go).path (sh.runner u go).turn y
      top = grind (arith, nat_tests, slot_low, now_held, current_apart)

  -- a task that goes on at a new step
  pub on_new : (u : ℕ) (a : Task) → u < n.tasks → Fresh m new a.current → by a.current ≡ u
      → ((f : ℕ) → In f a.finishes → f < n.finishes)
      → ((f : ℕ) → In f a.finishes → (owner f ≡ u) ⊎ T (n.lives f u))
      → ((g f : ℕ) → Above g f a.finishes → (owner g ≡ u) × (f < g))
      → (p : Label) (i : ℕ) → lab a.current ≡ p ++ (i ∷ []) → T (not (odd i))
      → ((x : ℕ) → x < n.steps → (x ≡ a.current → ⊥) → Low p i (lab x)) → ((f : ℕ) → f < n.finishes → Low p i (node f))
      → Stack n lab node p a.finishes → Runner n lab node by owner u a
  on_new u a held (x, y) current_by finish_held seat owns path turn at even step_low node_low stack =
      record {
        held = held;
        current_held = let e = grown.counts.0 in omega arith;
        current_by = current_by;
        tip = λ b h. let l = (before_from a.current b h).0 in let z : ⊥ = omega arith in z;
        going = λ f l h e. let w = (sh.last_held f l (subst T (grown.lasts f l) h)).1 in let z : ⊥ = omega arith in z;
        finish_held = finish_held;
        seat = seat;
        owns = owns;
        path = path;
        turn = turn;
        at = at;
        even = even;
        step_low = step_low;
        node_low = node_low;
        stack = stack;
      }

  -- what is covered: `own` is the task t after the call, and the other tasks are as they were
  module _ (own : Task) (goes : T own.running) (fresh : Fresh m new own.current) (task_own : n.task t ≡ own)
      (task_other : (u : ℕ) → T (m.task u).running → (u ≡ t → ⊥) → n.task u ≡ m.task u) where
    at_old : (l x : ℕ) → l < m.steps → T (at_or_after m l x) → T (at_or_after n l x)
    at_old l x h w = let e : n.before x l ≡ m.before x l = grown.before_old x l (inl h) in grind arith

    pub own_joined : (h x : ℕ) → In h own.finishes → T (joins x) → Covered n lab node h x
    own_joined h x i w = grind arith

    pub own_here : (h x : ℕ) → In h own.finishes → x ≡ own.current → Covered n lab node h x
    own_here h x i e = grind arith

    pub own_inner : (h x y : ℕ) → Above y h own.finishes → Under (node y) (lab x) → Covered n lab node h x
    own_inner h x y a w = by_inner n lab node h x t y (subst (Holds lab node h x y) (sym task_own) (goes, a, w))

    other_inner : (h x u y : ℕ) → T (m.task u).running → (u ≡ t → ⊥)
        → Above y h (m.task u).finishes → Under (node y) (lab x) → Covered n lab node h x
    other_inner h x u y go d a w =
        by_inner n lab node h x u y (subst (Holds lab node h x y) (sym (task_other u go d)) (go, a, w))

    joined_at : (x : ℕ) → T (at_or_after m now x) → T (joins x)
    joined_at x w = grind (arith, nat_tests, now_under, place.joined_in, place.joined_before)

    -- an old step stays covered
    cover_old : (h x : ℕ) → (In h (m.task t).finishes → In h own.finishes)
        → ((y : ℕ) → Above y h (m.task t).finishes → Under (node y) (lab x) → Covered n lab node h x)
        → Covered m lab node h x → Covered n lab node h x
    cover_old h x keeps inner (inl (u, go, i, w)) = grind (arith, nat_tests, joined_at, at_old, by_task, task_other)
    cover_old h x keeps inner (inr (inl (l, i, w))) = grind arith
    cover_old h x keeps inner (inr (inr (u, y, go, a, w))) = split (cases_eq u t)
      where
        split : (u ≡ t) ⊎ (u ≡ t → ⊥) → Covered n lab node h x
        split (inl e) = inner y (subst (λ z. Above y h (m.task z).finishes) e a) w
        split (inr d) = other_inner h x u y go d a w

    -- what covers the current step covers the new ones
    cover_new : (h x : ℕ) → Slot q k (lab x) → (In h (m.task t).finishes → Covered n lab node h x)
        → In h (m.task t).finishes ⊎ Inner m lab node h now → Covered n lab node h x
    cover_new h x z mine (inl i) = mine i
    cover_new h x z mine (inr (u, y, go, a, w)) = split (cases_eq u t)
      where
        split : (u ≡ t) ⊎ (u ≡ t → ⊥) → Covered n lab node h x
        split (inl e) = mine (subst (λ z. In h (m.task z).finishes) e (above_in y h (m.task u).finishes a))
        split (inr d) =
            let i = above_top y h (m.task u).finishes a in
            let v : Under (node y) q = place.outer y ((sh.runner u go).finish_held y i) (place.stays u y go d i) w in
            other_inner h x u y go d a (subst (Under (node y)) (sym z.3) (under_more (node y) q (z.0 ∷ z.1) v))

    -- every step in a finish h that was open is covered
    pub cover : (h x u : ℕ) → T (m.task u).running → In h (m.task u).finishes → x < n.steps → Under (node h) (lab x)
        → (In h (m.task t).finishes → In h own.finishes)
        → (x < m.steps → (y : ℕ) → Above y h (m.task t).finishes → Under (node y) (lab x) → Covered n lab node h x)
        → (Fresh m new x → In h (m.task t).finishes → Covered n lab node h x) → Covered n lab node h x
    cover h x u go i b w keeps inner mine = split (old_new x b)
      where
        split : (x < m.steps) ⊎ Fresh m new x → Covered n lab node h x
        split (inl l) = cover_old h x keeps (inner l) (sh.covered u h x go i l w)
        split (inr l) =
            let z : Slot q k (lab x) = grown.step_slot x l in
            let low : Low q (suc k) (node h) = place.level.node_low h ((sh.runner u go).finish_held h i) in
            let v : Under (node h) q = under_low q (suc k) (node h) z.0 z.1 low z.2 (subst (Under (node h)) z.3 w) in
            let y : Under (node h) (lab now) = subst (Under (node h)) (sym place.at) (under_more (node h) q (k ∷ place.tail) v) in
            cover_new h x z (mine l) (current_covered sh t run h (sh.covered u h now go i now_held y))

  pub added_shape : ((f g : ℕ) → f < n.finishes → g < n.finishes → node f ≡ node g → f ≡ g)
      → ((u : ℕ) → T (n.task u).running → Runner n lab node by owner u (n.task u))
      → ((v f x : ℕ) → T (n.task v).running → In f (n.task v).finishes → x < n.steps → Under (node f) (lab x)
      → Covered n lab node f x)
      → Shape n lab node by owner
  added_shape node_apart runner covered =
      record {
        before_held = λ a b h. let v = before_from a b h in let e = grown.counts.0 in (omega arith, omega arith);
        earlier_held = λ a b h.
            let v : T (earlier_with m now new a b) = subst T (grown.earlier_new a b) h in
            let x : a < m.steps + new = grind arith in
            let y : b < m.steps + new = grind arith in
            let e = grown.counts.0 in (omega arith, omega arith);
        labelled = still_labelled;
        node_apart = node_apart;
        last_held = λ f l h.
            let v = sh.last_held f l (subst T (grown.lasts f l) h) in
            let e = grown.counts in (omega arith, omega arith);
        last_under = λ f l h. sh.last_under f l (subst T (grown.lasts f l) h);
        runner = runner;
        covered = covered;
      }
