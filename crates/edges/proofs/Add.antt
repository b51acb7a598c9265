-- One more step: of a task that runs, or the first one of a task that it spawns.
use Rattle.std.proofs.Common.{◌≡◌, ℕ, ◌+◌, ◌<◌, ◌≤◌, T, eqb, cond, ◌⊎◌, List, [], ◌∷◌, Some, sym, ap, ◌∙◌, subst, inl, inr, arith}
use Rattle.std.proofs.lemmas.Bool.{cases_eq}
use Rattle.std.proofs.lemmas.Bool.Decides.{nat_tests}
use Rattle.model.proofs.Shelf.Tests.{cond_eq, cond_ne}
use Rattle.model.specs.Lists.{last_in, put}
use Rattle.model.specs.Orders.{Order, Task, at_or_after}
use Rattle.model.specs.Shapes.{In, Above}
use Rattle.edges.specs.Ways.{Ways}
use Rattle.edges.proofs.Paths.{Back, here, Out, Finds, Falls, back_le, back_more, back_case, back_same, out_same, out_held, finds_le}
use Rattle.edges.proofs.Kept.{Own, Owns, Stands, Grown, Walker, Kept, seat, own_up, alone_in, alone_above, after_finds, finds_after, after_held}

pub put_at : {A : Type 0} (f : ℕ → A) (k : ℕ) (v : A) → put f k v k ≡ v
put_at f k v = grind arith

pub put_off : {A : Type 0} (f : ℕ → A) (k : ℕ) (v : A) (x : ℕ) → (x ≡ k → ⊥) → put f k v x ≡ f x
put_off f k v x d = grind arith

-- the graph, with a new step n that comes from s, of a task that lives in h
abbrev pub grow : ℕ → ℕ → ℕ → Ways → Ways
grow n s h w = record w { from = put w.from n s; home = put w.home n h }

-- the order n is m after the task u, which is t on s or a task that t spawns, has come to a new step
pub record Adds (m n : Order) (w : Ways) (t u s h : ℕ) (fs : List ℕ) : Type 0 where
  pub run : T (m.task t).running
  pub at : (m.task t).current ≡ s
  pub h_in : In h (m.task t).finishes
  pub steps_is : n.steps ≡ m.steps + 1
  pub finishes_is : n.finishes ≡ m.finishes
  pub last_same : (f l : ℕ) → n.last f l ≡ m.last f l
  pub lives_more : (f v : ℕ) → T (m.lives f v) → T (n.lives f v)
  pub lives_new : T (n.lives h u)
  pub task_new : n.task u ≡ record { running = (m.task t).running; current = m.steps; finishes = fs }
  pub task_old : (v : ℕ) → (v ≡ u → ⊥) → n.task v ≡ m.task v
  pub which : ((u ≡ t) × (h ≡ w.home s) × (fs ≡ (m.task t).finishes)) ⊎ ((T (m.task u).running → ⊥) × (fs ≡ h ∷ []))
  pub before_is : (a b : ℕ) → n.before a b ≡ cond (eqb b m.steps) (at_or_after m s a) (m.before a b)

module _ {m n : Order} {w : Ways} {t u s h : ℕ} {fs : List ℕ} (k : Kept m w) (a : Adds m n w t u s h fs) where
  -- the graph after the step
  abbrev v : Ways
  v = grow m.steps s h w

  now : Walker m w t (m.task t)
  now = k.walker t a.run

  -- the new step's task
  abbrev own : Task
  own = record { running = (m.task t).running; current = m.steps; finishes = fs }

  s_held : s < m.steps
  s_held = subst (λ z. z < m.steps) a.at now.current_held

  home_old : (x : ℕ) → x < m.steps → w.home x ≡ v.home x
  home_old x l = grind (arith, nat_tests)

  from_old : (x : ℕ) → x < m.steps → w.from x ≡ v.from x
  from_old x l = grind (arith, nat_tests)

  home_new : v.home m.steps ≡ h
  home_new = put_at w.home m.steps h

  from_new : v.from m.steps ≡ s
  from_new = put_at w.from m.steps s

  -- the ways back from the steps that were there are the same
  grows : (y x : ℕ) → x < m.steps → Back w.from y x → Back v.from y x
  grows y x l b = back_same m.steps w.from v.from y x k.grown.falls from_old l b

  falls : Falls m.steps v.from
  falls x z l = let f : w.from x < x = k.grown.falls x z l in subst (λ y. y < x) (from_old x l) f

  shrinks : (y x : ℕ) → x < m.steps → Back v.from y x → Back w.from y x
  shrinks y x l b = back_same m.steps v.from w.from y x falls (λ z i. sym (from_old z i)) l b

  -- what is on the way back from the new step
  to_new : (y : ℕ) → Back w.from y s → Back v.from y m.steps
  to_new y b = back_more v.from y s m.steps from_new s_held (grows y s s_held b)

  of_new : (y : ℕ) → Back v.from y m.steps → (y ≡ m.steps) ⊎ Back w.from y s
  of_new y b = grind (arith, back_case v.from y s m.steps from_new b, shrinks y s)

  -- the finish of the new step: that of s, or an own one of t
  h_seat : (h ≡ w.home s) ⊎ Owns m t h
  h_seat = subst (λ z. (h ≡ w.home z) ⊎ Owns m t h) a.at (seat k t h a.run a.h_in)

  h_up : w.home s ≤ h
  h_up = elim h_seat [
    | inl e ↦ omega arith
    | inr o ↦ (let l : w.home (m.task t).current < h = own_up k t h o in let e = ap w.home a.at in omega arith)
  ]

  h_open : w.shut h ≡ 0
  h_open = now.open_still h a.h_in

  -- the finishes that the steps on the way back from the new step lie in are open
  awake_new : (y : ℕ) → Back v.from y m.steps → w.shut (v.home y) ≡ 0
  awake_new y b = grind (arith, nat_tests, of_new, back_le, home_old)

  waits : (y b : ℕ) → b < m.steps + 1 → Back v.from y b → y < w.shut (v.home y) → b < w.shut (v.home y)
  waits y b l c i = grind (arith, nat_tests, awake_new, shrinks, k.grown.waits y b, home_old, back_le)

  home_up : (x : ℕ) → 0 < x → x < m.steps + 1 → v.home (v.from x) ≤ v.home x
  home_up x z l = grind (arith, nat_tests, h_up, s_held, k.grown.falls x z, k.grown.home_up x z)

  home_held : (x : ℕ) → x < m.steps + 1 → v.home x < m.finishes
  home_held x l = grind (arith, nat_tests, now.finish_held h a.h_in, k.grown.home_held x)

  grown_on : Grown n v
  grown_on =
      record {
        falls = λ x z l. let r = a.steps_is in grind (arith, nat_tests, s_held, k.grown.falls x z);
        home_up = λ x z l. home_up x z (let r = a.steps_is in omega arith);
        home_held = λ x l. let r = a.steps_is in let q = a.finishes_is in let h = home_held x (omega arith) in omega arith;
        shut_by = λ f. let l = k.grown.shut_by f in let r = a.steps_is in omega arith;
        shut_held = λ f l. k.grown.shut_held f (let r = a.finishes_is in omega arith);
        waits = λ y b l. waits y b (let r = a.steps_is in omega arith);
      }

  -- after the step: the new step's task, or another
  task_case : (P : Task → Type 0) (x : ℕ) → (x ≡ u → P own) → ((x ≡ u → ⊥) → P (m.task x)) → P (n.task x)
  task_case P x p q = grind (arith, nat_tests)

  -- the new step's task has no finishes but those of t, and no own ones but those of t
  fs_in : (f : ℕ) → In f fs → In f (m.task t).finishes
  fs_in f i = grind (arith, alone_in)

  fs_own : (f : ℕ) → Own f fs → (u ≡ t) × (fs ≡ (m.task t).finishes)
  fs_own f o = grind arith

  fs_nested : (g f : ℕ) → Above g f fs → f < g
  fs_nested g f i = grind (arith, alone_above, now.nested g f)

  fs_last : last_in fs ≡ Some h
  fs_last = grind (arith, now.home_last)

  -- if the task of the new step ran before, it is t
  mine : (x : ℕ) → x ≡ u → T (m.task x).running → (x ≡ t) × (h ≡ w.home s) × (fs ≡ (m.task t).finishes)
  mine x e run = grind arith

  -- each task keeps its own finishes, and has no other
  owns_old : (x f : ℕ) → Owns m x f → Owns n x f
  owns_old x f (run, o) = grind (arith, mine)

  owns_of : (x f : ℕ) → Owns n x f → Owns m x f
  owns_of x f = grind (arith, fs_own)

  -- where a running task was, it has come to
  cur_more : (x y : ℕ) → T (m.task x).running → Back w.from y (m.task x).current → Back v.from y (n.task x).current
  cur_more x y run b = grind (arith, mine, to_new, grows)

  -- what the new step lies in is the outer finish, or one that a running task has opened
  within_new : (h ≡ 0) ⊎ ((x : ℕ) × Owns n x h)
  within_new = elim h_seat [
    | inl e ↦ elim now.within [
      | inl z ↦ inl (e ∙ sym (ap w.home a.at) ∙ z)
      | inr (x, o) ↦ inr (x, owns_old x h (subst (Owns m x) (ap w.home a.at ∙ sym e) o))
    ]
    | inr o ↦ inr (t, owns_old t h o)
  ]

  walker_new : Walker n v u own
  walker_new =
      record {
        current_held = let r = a.steps_is in omega arith;
        home_last = fs_last ∙ ap Some (sym home_new);
        lives = subst (λ z. T (n.lives z u)) (sym home_new) a.lives_new;
        finish_held = λ f i. let r = a.finishes_is in let b = now.finish_held f (fs_in f i) in omega arith;
        nested = fs_nested;
        open_still = λ f i. now.open_still f (fs_in f i);
        awake = awake_new;
        within = subst (λ z. (z ≡ 0) ⊎ ((x : ℕ) × Owns n x z)) (sym home_new) within_new;
      }

  walker_old : (x : ℕ) → T (m.task x).running → Walker n v x (m.task x)
  walker_old x run =
      let r = k.walker x run in
      let c : ℕ = (m.task x).current in
      let e : w.home c ≡ v.home c = home_old c r.current_held in
      record {
        current_held = let b = a.steps_is in let l = r.current_held in omega arith;
        home_last = r.home_last ∙ ap Some e;
        lives = subst (λ z. T (n.lives z x)) e (a.lives_more (w.home c) x r.lives);
        finish_held = λ f i. let b = a.finishes_is in let l = r.finish_held f i in omega arith;
        nested = r.nested;
        open_still = r.open_still;
        awake = λ y b.
            let j = shrinks y c r.current_held b in
            let l : y ≤ c = back_le w.from y c j in
            let i : c < m.steps = r.current_held in
            ap w.shut (sym (home_old y (omega arith))) ∙ r.awake y j;
        within = elim r.within [
          | inl z ↦ inl (sym e ∙ z)
          | inr (y, o) ↦ inr (y, owns_old y (v.home c) (subst (Owns m y) e o))
        ];
      }

  walker_on : (x : ℕ) → T (n.task x).running → Walker n v x (n.task x)
  walker_on x =
      task_case (λ z. T z.running → Walker n v x z) x
      (λ e run. subst (λ z. Walker n v z own) (sym e) walker_new) (λ d run. walker_old x run)

  -- who stands on a step stood there, or it is the new one
  stands_of : (f x : ℕ) → Stands n v f x → (Stands m w f x × (x < m.steps)) ⊎ ((x ≡ m.steps) × (f ≡ h))
  stands_of f x = grind (arith, nat_tests, k.last_is f x, home_old, home_new)

  -- a task that has opened f has come after what the tasks of f have, but for the steps that lie in f
  handed : (x f z y : ℕ) → Owns n x f → Stands n v f z → Back v.from y z → (v.home y ≡ f → ⊥) → Back v.from y (n.task x).current
  handed x f z y o st b d = elim (stands_of f z st) [
    | inl (i, l) ↦ (
        let j = shrinks y z l b in
        let r : y ≤ z = back_le w.from y z j in
        cur_more x y was.0 (k.handed x f z y was i j (λ e. d (sym (home_old y (omega arith)) ∙ e))))
    | inr (e, c) ↦ elim (of_new y (subst (Back v.from y) e b)) [
      | inl q ↦ absurd (d (ap v.home q ∙ home_new ∙ sym c))
      | inr j ↦ (
          let r : y ≤ s = back_le w.from y s j in
          let l = s_held in
          elim h_seat [
            | inl q ↦
                cur_more x y was.0 (k.handed x f s y was (inr (t, a.run, a.at, sym q ∙ sym c)) j
                (λ e. d (sym (home_old y (omega arith)) ∙ e)))
            | inr q ↦
                cur_more x y was.0 (subst (λ p. Back w.from y (m.task p).current)
                (k.one_owner t x f (subst (Owns m t) (sym c) q) was) (subst (Back w.from y) (sym a.at) j))
          ])
    ]
  ]
    where
      was : Owns m x f
      was = owns_of x f o

  -- the task of the new step stands on it
  stands_new : (f : ℕ) → h ≡ f → Stands n v f m.steps
  stands_new f e =
      inr (u, subst (λ (p : Task). T p.running) (sym a.task_new) a.run, ap (λ (p : Task). p.current) a.task_new, home_new ∙ e)

  -- who stood on x stands there, or has come to the new step
  stands_on : (f x z : ℕ) → Stands m w f x → Back w.from z x → (y : ℕ) × Stands n v f y × Back v.from z y
  stands_on f x z (inl l) b = (x, inl (subst T (sym (a.last_same f x)) l), grows z x (k.last_is f x l).0 b)
  stands_on f x z (inr (y, run, c, e)) b = elim (cases_eq y u) [
    | inl q ↦ (
        let r = mine y q run in
        let x_s : x ≡ s = sym c ∙ ap (λ p. (m.task p).current) r.0 ∙ a.at in
        (m.steps, stands_new f (r.1 ∙ ap w.home (sym x_s) ∙ e), to_new z (subst (Back w.from z) x_s b)))
    | inr q ↦ (
        let l : x < m.steps = subst (λ p. p < m.steps) c (k.walker y run).current_held in
        let same = a.task_old y q in (
          x,
          inr (y, subst (λ (p : Task). T p.running) (sym same) run, ap (λ (p : Task). p.current) same ∙ c, sym (home_old x l) ∙ e),
          grows z x l b,
        ))
  ]

  -- a task that lives where a step lies, or ended there, has come after it
  awaited : (z : ℕ) → z < n.steps → (x : ℕ) × Stands n v (v.home z) x × Back v.from z x
  awaited z l = elim (cases_eq z m.steps) [
    | inl e ↦
        (m.steps, stands_new (v.home z) (sym (ap v.home e ∙ home_new)), subst (λ p. Back v.from p m.steps) (sym e) here)
    | inr d ↦ (
        let i : z < m.steps = (let r = a.steps_is in omega arith) in
        let (x, st, b) = k.awaited z i in
        stands_on (v.home z) x z (subst (λ p. Stands m w p x) (home_old z i) st) b)
  ]

  -- the ways out of the finishes around the steps that were there are the same
  out_old : (y x : ℕ) → x < m.steps → Out w y x → Out v y x
  out_old y x l o =
      out_same m.steps w v y x (λ z i. k.grown.shut_by (w.home z)) (λ z i. ap w.shut (home_old z i)) l o

  old_out : (y x : ℕ) → x < m.steps → Out v y x → Out w y x
  old_out y x l o =
      out_same m.steps v w y x (λ z i. k.grown.shut_by (v.home z)) (λ z i. ap w.shut (sym (home_old z i))) l o

  before_old : (x y : ℕ) → (y ≡ m.steps → ⊥) → n.before x y ≡ m.before x y
  before_old x y d = a.before_is x y ∙ cond_ne y m.steps (at_or_after m s x) (m.before x y) d

  before_new : (x y : ℕ) → y ≡ m.steps → n.before x y ≡ at_or_after m s x
  before_new x y e = a.before_is x y ∙ cond_eq y m.steps (at_or_after m s x) (m.before x y) e

  before_held : (x y : ℕ) → T (n.before x y) → (x < n.steps) × (y < n.steps)
  before_held x y b = grind (arith, nat_tests, before_new, before_old, after_held, k.order.before_held x y)

  -- what is before a step is found by ways, and what is found is before it
  told : (x y : ℕ) → T (n.before x y) → Finds v x y
  told x y b = grind (arith, nat_tests, before_new, before_old, after_held, after_finds, k.order.before_held x y, k.order.told x y, out_old, to_new, grows)

  found : (x y : ℕ) → x < n.steps → y < n.steps → (x ≡ y → ⊥) → Finds v x y → T (n.before x y)
  found x y l i d (z, o, b) = grind (arith, nat_tests, before_new, before_old, finds_after k x s, finds_le v x y, out_held m.steps w z x, old_out, of_new, shrinks z y, k.order.found x y)

  pub add_kept : Kept n v
  add_kept =
      record {
        grown = grown_on;
        walker = walker_on;
        one_owner = λ x y f o p. k.one_owner x y f (owns_of x f o) (owns_of y f p);
        last_is = λ f l i.
            let r = k.last_is f l (subst T (a.last_same f l) i) in
            (let b = r.0 in let c = a.steps_is in omega arith, sym (home_old l r.0) ∙ r.1);
        handed = handed;
        awaited = awaited;
        order = record { before_held = before_held; told = told; found = found };
      }
