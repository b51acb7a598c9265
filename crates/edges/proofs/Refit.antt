-- A task's finishes change, and no step is new.
use Rattle.std.proofs.Common.{◌≡◌, ℕ, ◌≤◌, T, ◌⊎◌, List, sym, refl, ap, ◌∙◌, subst, inl, inr, arith}
use Rattle.std.proofs.lemmas.Bool.{cases_eq}
use Rattle.model.specs.Orders.{Order, Task}
use Rattle.model.specs.Shapes.{In}
use Rattle.edges.specs.Ways.{Ways}
use Rattle.edges.proofs.Paths.{Back}
use Rattle.edges.proofs.Kept.{Own, Owns, Stands, Grown, Walker, Told, Kept}

-- the graph, with other finishes closed
abbrev pub reshut : Ways → (ℕ → ℕ) → Ways
reshut w shut = record w { shut = shut }

-- what holds of a running task whose record stays
pub walker_keep : (m n : Order) (w : Ways) (shut : ℕ → ℕ) (t : ℕ) (k : Task) → n.steps ≡ m.steps → m.finishes ≤ n.finishes
    → Walker m w t k → T (n.lives (w.home k.current) t) → ((f : ℕ) → In f k.finishes → shut f ≡ 0)
    → ((y : ℕ) → Back w.from y k.current → shut (w.home y) ≡ 0)
    → ((x : ℕ) → Owns m x (w.home k.current) → Owns n x (w.home k.current)) → Walker n (reshut w shut) t k
walker_keep m n w shut t k same more r lives open_still awake owns =
    record {
      current_held = let l = r.current_held in omega arith;
      home_last = r.home_last;
      lives = lives;
      finish_held = λ f i. let l = r.finish_held f i in omega arith;
      nested = r.nested;
      open_still = open_still;
      awake = awake;
      within = elim r.within [
        | inl z ↦ inl z
        | inr (x, o) ↦ inr (x, owns x o)
      ];
    }

pub grown_keep : (m n : Order) (w : Ways) → n.steps ≡ m.steps → m.finishes ≤ n.finishes → Grown m w → Grown n w
grown_keep m n w same more r =
    record {
      falls = λ x z l. r.falls x z (omega arith);
      home_up = λ x z l. r.home_up x z (omega arith);
      home_held = λ x l. let i = r.home_held x (omega arith) in omega arith;
      shut_by = λ f. let i = r.shut_by f in omega arith;
      shut_held = λ f l. r.shut_held f (omega arith);
      waits = λ y b l. r.waits y b (omega arith);
    }

pub told_keep : (m n : Order) (w : Ways) → n.steps ≡ m.steps → ((a b : ℕ) → n.before a b ≡ m.before a b) → Told m w → Told n w
told_keep m n w same before_is r =
    record {
      before_held = λ a b t. let (i, j) = r.before_held a b (subst T (before_is a b) t) in (omega arith, omega arith);
      told = λ a b t. r.told a b (subst T (before_is a b) t);
      found = λ a b i j d f. subst T (sym (before_is a b)) (r.found a b (omega arith) (omega arith) d f);
    }

-- the order n is m with the finishes fs of the running task t
pub record Refits (m n : Order) (t : ℕ) (fs : List ℕ) : Type 0 where
  pub run : T (m.task t).running
  pub steps_is : n.steps ≡ m.steps
  pub last_same : (f l : ℕ) → n.last f l ≡ m.last f l
  pub lives_more : (f v : ℕ) → T (m.lives f v) → T (n.lives f v)
  pub task_new : n.task t ≡ record { running = (m.task t).running; current = (m.task t).current; finishes = fs }
  pub task_old : (v : ℕ) → (v ≡ t → ⊥) → n.task v ≡ m.task v

module _ {m n : Order} {w : Ways} {t : ℕ} {fs : List ℕ} (k : Kept m w) (a : Refits m n t fs) where
  -- the record of t
  abbrev pub own : Task
  own = record { running = (m.task t).running; current = (m.task t).current; finishes = fs }

  pub task_case : (P : Task → Type 0) (x : ℕ) → (x ≡ t → P own) → ((x ≡ t → ⊥) → P (m.task x)) → P (n.task x)
  task_case P x p q = elim (cases_eq x t) [
    | inl e ↦ subst P (sym (ap n.task e ∙ a.task_new)) (p e)
    | inr d ↦ subst P (sym (a.task_old x d)) (q d)
  ]

  -- the same tasks run, on the same steps
  pub runs_same : (x : ℕ) → (n.task x).running ≡ (m.task x).running
  runs_same x =
      task_case (λ z. z.running ≡ (m.task x).running) x (λ e. ap (λ z. (m.task z).running) (sym e)) (λ d. refl)

  pub cur_same : (x : ℕ) → (n.task x).current ≡ (m.task x).current
  cur_same x =
      task_case (λ z. z.current ≡ (m.task x).current) x (λ e. ap (λ z. (m.task z).current) (sym e)) (λ d. refl)

  stands_of : (f x : ℕ) → Stands n w f x → Stands m w f x
  stands_of f x (inl l) = inl (subst T (a.last_same f x) l)
  stands_of f x (inr (y, run, c, e)) = inr (y, subst T (runs_same y) run, sym (cur_same y) ∙ c, e)

  stands_on : (f x : ℕ) → Stands m w f x → Stands n w f x
  stands_on f x (inl l) = inl (subst T (sym (a.last_same f x)) l)
  stands_on f x (inr (y, run, c, e)) = inr (y, subst T (sym (runs_same y)) run, cur_same y ∙ c, e)

  pub owns_of : (x f : ℕ) → Owns n x f → Owns m x f ⊎ ((x ≡ t) × Own f fs)
  owns_of x f = grind arith

  pub owns_old : (x f : ℕ) → (Own f (m.task t).finishes → Own f fs) → Owns m x f → Owns n x f
  owns_old x f g (run, o) = grind arith

  pub refit_kept : (shut : ℕ → ℕ) → Grown n (reshut w shut)
      → ((x : ℕ) → T (n.task x).running → Walker n (reshut w shut) x (n.task x))
      → ((u v f : ℕ) → Owns n u f → Owns n v f → u ≡ v)
      → ((x f z : ℕ) → Stands m w f z → Owns n x f → Owns m x f)
      → Told n (reshut w shut) → Kept n (reshut w shut)
  refit_kept shut grown walker one_owner owned order =
      record {
        grown = grown;
        walker = walker;
        one_owner = one_owner;
        last_is = λ f l i. let (b, c) = k.last_is f l (subst T (a.last_same f l) i) in (let r = a.steps_is in omega arith, c);
        handed = λ v f x y o st b d.
            let s = stands_of f x st in
            subst (Back w.from y) (sym (cur_same v)) (k.handed v f x y (owned v f x s o) s b d);
        awaited = λ z l.
            let (x, st, b) = k.awaited z (let r = a.steps_is in omega arith) in
            (x, stands_on (w.home z) x st, b);
        order = order;
      }
