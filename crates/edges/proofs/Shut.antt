-- A running task closes a finish, by the step that it is on.
use Rattle.std.proofs.lemmas.Bool.{cases_eq}
use Rattle.std.proofs.Common.{◌≡◌, ℕ, zero, suc, ◌+◌, ◌<◌, ◌≤◌, T, ◌⊎◌, List, ◌∷◌, sym, refl, ap, ◌∙◌, subst, inl, inr, arith}
use Rattle.model.specs.Lists.{last_in, put}
use Rattle.model.specs.Orders.{Order, Task, at_or_after}
use Rattle.model.specs.Shapes.{In, Above}
use Rattle.edges.specs.Ways.{Ways}
use Rattle.edges.proofs.Paths.{Back, here, Out, Finds, shut_by, back_le, out_held, out_on, out_kept, out_of}
use Rattle.edges.proofs.Kept.{Own, Owns, Stands, Grown, Walker, Kept, own_up, seat, back_home, after_finds, finds_after, after_held}
use Rattle.edges.proofs.Add.{put_at, put_off}
use Rattle.edges.proofs.Refit.{walker_keep, Refits, own, task_case, owns_of, owns_old, refit_kept}

-- the order n is m after the task t, on its step c, has closed f: the ends of the tasks of f are now before c
pub record Shuts (m n : Order) (t c f g : ℕ) (fs : List ℕ) : Type 0 where
  pub refits : Refits m n t (g ∷ fs)
  pub fin : (m.task t).finishes ≡ f ∷ (g ∷ fs)
  pub at : (m.task t).current ≡ c
  pub newest : m.steps ≡ c + 1
  pub none : (u : ℕ) → T (m.lives f u) → ⊥
  pub finishes_is : n.finishes ≡ m.finishes
  pub before_old : (x y : ℕ) → (y ≡ c → ⊥) → n.before x y ≡ m.before x y
  pub joins : (x : ℕ) → T (n.before x c) → T (m.before x c) ⊎ ((l : ℕ) × T (m.last f l) × T (at_or_after m l x))
  pub joined : (x : ℕ) → T (m.before x c) ⊎ ((l : ℕ) × T (m.last f l) × T (at_or_after m l x)) → T (n.before x c)

module _ {m n : Order} {w : Ways} {t c f g : ℕ} {fs : List ℕ} (k : Kept m w) (s : Shuts m n t c f g fs) where
  -- the graph after the close
  abbrev v : Ways
  v = shut_by w f c

  a : Refits m n t (g ∷ fs)
  a = s.refits

  now : Walker m w t (m.task t)
  now = k.walker t a.run

  -- t has opened f
  opener : Owns m t f
  opener = (a.run, subst (Own f) (sym s.fin) (inl refl))

  -- no task lives in f
  not_home : (x : ℕ) → T (m.task x).running → w.home (m.task x).current ≡ f → ⊥
  not_home x run e = s.none x (subst (λ z. T (m.lives z x)) e (k.walker x run).lives)

  -- the way back from a running task's step avoids f
  away : (b x y : ℕ) → w.home (m.task x).current < b → T (m.task x).running → Back w.from y (m.task x).current → w.home y ≡ f → ⊥
  away zero x y l run r e = absurd (omega arith)
  away (suc b) x y l run r e =
      let h : ℕ = w.home (m.task x).current in
      let up = back_home k y (m.task x).current (k.walker x run).current_held r in
      let d = not_home x run in
      let low = own_up k t f opener in
      elim (k.walker x run).within [
        | inl z ↦ absurd (omega arith)
        | inr (u, o) ↦ (
            let i = own_up k u h o in
            let j = k.handed u h (m.task x).current y o (inr (x, run, refl, refl)) r (λ q. d (sym q ∙ e)) in
            away b u y (omega arith) o.0 j e)
      ]

  off : (x y : ℕ) → T (m.task x).running → Back w.from y (m.task x).current → w.home y ≡ f → ⊥
  off x y run b = away (w.home (m.task x).current + 1) x y (omega arith) run b

  shut_off : (h : ℕ) → (h ≡ f → ⊥) → put w.shut f c h ≡ w.shut h
  shut_off h d = put_off w.shut f c h d

  -- f is the innermost finish of t, and of no other task
  others : (h : ℕ) → In h (g ∷ fs) → h ≡ f → ⊥
  others h i e = let l = now.nested f h (subst (Above f h) (sym s.fin) (inl (refl, i))) in omega arith

  not_in : (x : ℕ) → (x ≡ t → ⊥) → T (m.task x).running → (h : ℕ) → In h (m.task x).finishes → h ≡ f → ⊥
  not_in x d run h i e = grind (arith, seat k x h run i, not_home x run, opener, k.one_owner x t f)

  -- the own finishes of a task stay, but for f
  own_rest : (h : ℕ) → (h ≡ f → ⊥) → Own h (m.task t).finishes → Own h (g ∷ fs)
  own_rest h d o = grind arith

  owned : (x h : ℕ) → Owns n x h → Owns m x h
  owned x h o = grind (arith, owns_of)

  -- a running task whose finishes are not f
  walker_with : (x : ℕ) (r : Task) → Walker m w x r → T (m.task x).running → r.current ≡ (m.task x).current
      → ((h : ℕ) → In h r.finishes → h ≡ f → ⊥) → Walker n v x r
  walker_with x r on run e d =
      walker_keep m n w (put w.shut f c) x r a.steps_is (let q = s.finishes_is in omega arith) on (a.lives_more (w.home r.current) x on.lives)
      (λ h i. shut_off h (d h i) ∙ on.open_still h i)
      (λ y b. shut_off (w.home y) (off x y run (subst (Back w.from y) e b)) ∙ on.awake y b)
      (λ y. owns_old k a y (w.home r.current) (own_rest (w.home r.current) (λ q. not_home x run (ap w.home (sym e) ∙ q))))

  walker_rest : Walker m w t (own k a)
  walker_rest =
      record {
        current_held = now.current_held;
        home_last = sym (ap last_in s.fin) ∙ now.home_last;
        lives = now.lives;
        finish_held = λ h i. now.finish_held h (subst (In h) (sym s.fin) (inr i));
        nested = λ x y i. now.nested x y (subst (Above x y) (sym s.fin) (inr i));
        open_still = λ h i. now.open_still h (subst (In h) (sym s.fin) (inr i));
        awake = now.awake;
        within = now.within;
      }

  walker_on : (x : ℕ) → T (n.task x).running → Walker n v x (n.task x)
  walker_on x =
      task_case k a (λ z. T z.running → Walker n v x z) x
      (λ e run. subst (λ z. Walker n v z (own k a)) (sym e) (walker_with t (own k a) walker_rest a.run refl others))
      (λ d run. walker_with x (m.task x) (k.walker x run) run refl (not_in x d run))

  -- the steps on the way back from c do not lie in f
  c_off : (y : ℕ) → Back w.from y c → w.home y ≡ f → ⊥
  c_off y b = off t y a.run (subst (Back w.from y) (sym s.at) b)

  shut_case : (P : ℕ → Type 0) (h : ℕ) → (h ≡ f → P c) → ((h ≡ f → ⊥) → P (w.shut h)) → P (put w.shut f c h)
  shut_case P h p q = elim (cases_eq h f) [
    | inl e ↦ subst P (sym (ap (put w.shut f c) e ∙ put_at w.shut f c)) (p e)
    | inr d ↦ subst P (sym (shut_off h d)) (q d)
  ]

  f_held : f < m.finishes
  f_held = now.finish_held f (subst (In f) (sym s.fin) (inl refl))

  -- c is after the steps whose way back leads through f
  waits : (y b : ℕ) → b < m.steps → Back w.from y b → y < put w.shut f c (w.home y) → b < put w.shut f c (w.home y)
  waits y b l i =
      shut_case (λ z. y < z → b < z) (w.home y)
      (λ e j. elim (cases_eq b c) [
        | inl q ↦ absurd (c_off y (subst (Back w.from y) q i) e)
        | inr q ↦ (let r = s.newest in omega arith)
      ])
      (λ d. k.grown.waits y b l i)

  grown : Grown n v
  grown =
      record {
        falls = λ x z l. k.grown.falls x z (let r = a.steps_is in omega arith);
        home_up = λ x z l. k.grown.home_up x z (let r = a.steps_is in omega arith);
        home_held = λ x l.
            let r = a.steps_is in
            let q = s.finishes_is in
            let i = k.grown.home_held x (omega arith) in
            omega arith;
        shut_by = λ h.
            let r = a.steps_is in
            let q = s.newest in
            shut_case (λ z. z < n.steps) h (λ e. omega arith) (λ d. let i = k.grown.shut_by h in omega arith);
        shut_held = λ h l.
            let r = s.finishes_is in
            let i = f_held in
            shut_case (λ z. z ≡ 0) h (λ e. absurd (omega arith)) (λ d. k.grown.shut_held h (omega arith));
        waits = λ y b l. waits y b (let r = a.steps_is in omega arith);
      }

  c_held : c < m.steps
  c_held = let r = s.newest in omega arith

  f_open : w.shut f ≡ 0
  f_open = now.open_still f (subst (In f) (sym s.fin) (inl refl))

  -- what was told by the graph still is
  more : (x y : ℕ) → Finds w x y → Finds v x y
  more x y (z, o, b) = (z, out_kept w f c f_open z x o, b)

  -- what is at or before an end in f comes to c
  end_finds : (x l : ℕ) → T (m.last f l) → T (at_or_after m l x) → Finds v x c
  end_finds x l i b =
      let (z, o, j) = after_finds k x l b in
      elim (cases_eq (w.home z) f) [
        | inl e ↦ (
            let low : z ≤ l = back_le w.from z l j in
            let (l_held, l_home) = k.last_is f l i in
            let new = s.newest in
            let not_c : z ≡ c → ⊥ = λ q. c_off z (subst (λ p. Back w.from p c) (sym q) here) e in
            let shut : put w.shut f c (w.home z) ≡ c = ap (put w.shut f c) e ∙ put_at w.shut f c in
            (c, subst (λ p. Out v p x) shut (out_on v z x (omega arith) (out_kept w f c f_open z x o)), here))
        | inr d ↦ (
          z,
          out_kept w f c f_open z x o,
          subst (Back w.from z) s.at (k.handed t f l z opener (inl i) j d),
        )
      ]

  -- what is before a step is found by ways, and what is found is before it
  told : (x y : ℕ) → T (n.before x y) → Finds v x y
  told x y b = elim (cases_eq y c) [
    | inl e ↦ subst (Finds v x) (sym e) (elim (s.joins x (subst (λ p. T (n.before x p)) e b)) [
      | inl i ↦ more x c (k.order.told x c i)
      | inr (l, i, j) ↦ end_finds x l i j
    ])
    | inr d ↦ more x y (k.order.told x y (subst T (s.before_old x y d) b))
  ]

  -- a step in f is at or before an end there
  found_end : (z : ℕ) → z < m.steps → w.home z ≡ f → (l : ℕ) × T (m.last f l) × Back w.from z l
  found_end z i e = let (l, st, b) = k.awaited z i in (l, ended l (subst (λ p. Stands m w p l) e st), b)
    where
      ended : (l : ℕ) → Stands m w f l → T (m.last f l)
      ended l (inl q) = q
      ended l (inr (u, run, q, r)) = absurd (not_home u run (ap w.home q ∙ r))

  found : (x y : ℕ) → x < n.steps → y < n.steps → (x ≡ y → ⊥) → Finds v x y → T (n.before x y)
  found x y i j d (z, o, b) =
      let r = a.steps_is in
      let x_held : x < m.steps = omega arith in
      let y_held : y < m.steps = omega arith in
      elim (out_of w f c (ap w.shut (ap w.home (sym s.at)) ∙ now.awake (m.task t).current here) (c_off c here) z x o) [
        | inl p ↦ (
            let h = k.order.found x y x_held y_held d (z, p, b) in
            elim (cases_eq y c) [
              | inl e ↦ subst (λ q. T (n.before x q)) (sym e) (s.joined x (inl (subst (λ q. T (m.before x q)) e h)))
              | inr q ↦ subst T (sym (s.before_old x y q)) h
            ])
        | inr (u, p, e, q) ↦ (
            let low : z ≤ y = back_le w.from z y b in
            let new = s.newest in
            let y_c : y ≡ c = omega arith in
            let (l, last, g) = found_end u (out_held m.steps w u x k.grown.shut_by x_held p) e in
            let h = finds_after k x l x_held (k.last_is f l last).0 (u, p, g) in
            subst (λ q. T (n.before x q)) (sym y_c) (s.joined x (inr (l, last, h))))
      ]

  before_held : (x y : ℕ) → T (n.before x y) → (x < n.steps) × (y < n.steps)
  before_held x y b = elim (cases_eq y c) [
    | inl e ↦ (
        let r = a.steps_is in
        let i = c_held in
        elim (s.joins x (subst (λ p. T (n.before x p)) e b)) [
          | inl j ↦ (let l = (k.order.before_held x c j).0 in (omega arith, omega arith))
          | inr (l, j, h) ↦ (let q = after_held k x l (k.last_is f l j).0 h in (omega arith, omega arith))
        ])
    | inr d ↦ (
        let r = a.steps_is in
        let (i, j) = k.order.before_held x y (subst T (s.before_old x y d) b) in
        (omega arith, omega arith))
  ]

  pub shut_kept : Kept n v
  shut_kept =
      refit_kept k a (put w.shut f c) grown walker_on (λ x y h o p. k.one_owner x y h (owned x h o) (owned y h p))
      (λ x f z st. owned x f) record { before_held = before_held; told = told; found = found }
