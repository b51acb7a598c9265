-- What holds of the graph, of the tasks and of the order from call to call.
use Rattle.std.proofs.Common.{◌≡◌, ℕ, ◌<◌, ◌≤◌, T, eqb, ◌⊎◌, List, [], ◌∷◌, Some, subst, inl, inr, arith}
use Rattle.std.proofs.Math.Facts.{yes_eqb}
use Rattle.std.proofs.lemmas.Bool.{cases_eq}
use Rattle.model.proofs.Shelf.Tests.{or_l, or_r}
use Rattle.model.specs.Lists.{last_in}
use Rattle.model.specs.Orders.{Order, Task, at_or_after}
use Rattle.model.specs.Shapes.{In, Above}
use Rattle.edges.specs.Ways.{Ways}
use Rattle.edges.proofs.Paths.{Back, here, on, stay, Falls, Finds}

-- f is one of a task's own finishes, which are all but the last
abbrev pub Own : ℕ → List ℕ → Type 0
Own f [] = ⊥
Own f (x ∷ []) = ⊥
Own f (x ∷ (y ∷ ys)) = (f ≡ x) ⊎ Own f (y ∷ ys)

-- f is a finish that the running task v has opened
abbrev pub Owns : Order → ℕ → ℕ → Type 0
Owns m v f = T (m.task v).running × Own f (m.task v).finishes

-- a task that lived in the finish f is on the step x: it still runs, or has ended there
abbrev pub Stands : Order → Ways → ℕ → ℕ → Type 0
Stands m w f x = T (m.last f x) ⊎ ((u : ℕ) × T (m.task u).running × ((m.task u).current ≡ x) × (w.home x ≡ f))

-- the graph itself
pub record Grown (m : Order) (w : Ways) : Type 0 where
  pub falls : Falls m.steps w.from
  pub home_up : (x : ℕ) → 0 < x → x < m.steps → w.home (w.from x) ≤ w.home x
  pub home_held : (x : ℕ) → x < m.steps → w.home x < m.finishes
  pub shut_by : (f : ℕ) → w.shut f < m.steps
  pub shut_held : (f : ℕ) → m.finishes ≤ f → w.shut f ≡ 0
  -- a finish that a step on the way back from b lies in is closed after b, if at all
  pub waits : (y b : ℕ) → b < m.steps → Back w.from y b → y < w.shut (w.home y) → b < w.shut (w.home y)

-- a running task t with the record k
pub record Walker (m : Order) (w : Ways) (t : ℕ) (k : Task) : Type 0 where
  pub current_held : k.current < m.steps
  pub home_last : last_in k.finishes ≡ Some (w.home k.current)
  pub lives : T (m.lives (w.home k.current) t)
  pub finish_held : (f : ℕ) → In f k.finishes → f < m.finishes
  pub nested : (g f : ℕ) → Above g f k.finishes → f < g
  pub open_still : (f : ℕ) → In f k.finishes → w.shut f ≡ 0
  -- the finishes that the steps on its way back lie in are open
  pub awake : (y : ℕ) → Back w.from y k.current → w.shut (w.home y) ≡ 0
  -- what it lives in is the outer finish, or one that a running task has opened
  pub within : (w.home k.current ≡ 0) ⊎ ((v : ℕ) × Owns m v (w.home k.current))

-- the order, told by the graph
pub record Told (m : Order) (w : Ways) : Type 0 where
  pub before_held : (a b : ℕ) → T (m.before a b) → (a < m.steps) × (b < m.steps)
  pub told : (a b : ℕ) → T (m.before a b) → Finds w a b
  pub found : (a b : ℕ) → a < m.steps → b < m.steps → (a ≡ b → ⊥) → Finds w a b → T (m.before a b)

pub record Kept (m : Order) (w : Ways) : Type 0 where
  pub grown : Grown m w
  pub walker : (t : ℕ) → T (m.task t).running → Walker m w t (m.task t)
  pub one_owner : (u v f : ℕ) → Owns m u f → Owns m v f → u ≡ v
  pub last_is : (f l : ℕ) → T (m.last f l) → (l < m.steps) × (w.home l ≡ f)
  -- a task that has opened f has come after what the tasks of f have, but for the steps that lie in f
  pub handed : (v f x y : ℕ) → Owns m v f → Stands m w f x → Back w.from y x → (w.home y ≡ f → ⊥) → Back w.from y (m.task v).current
  -- a task that lives where a step lies, or ended there, has come after it
  pub awaited : (z : ℕ) → z < m.steps → (x : ℕ) × Stands m w (w.home z) x × Back w.from z x
  pub order : Told m w

-- a finish of a task is the one that it lives in, or its own
pub in_case : (f h : ℕ) (fs : List ℕ) → last_in fs ≡ Some h → In f fs → (f ≡ h) ⊎ Own f fs
in_case f h [] e i = absurd i
in_case f h (x ∷ []) e (inl i) = inl cc
in_case f h (x ∷ []) e (inr i) = absurd i
in_case f h (x ∷ (y ∷ ys)) e (inl i) = inr (inl i)
in_case f h (x ∷ (y ∷ ys)) e (inr i) = elim (in_case f h (y ∷ ys) e i) [
  | inl j ↦ inl j
  | inr j ↦ inr (inr j)
]

pub last_is_in : (h : ℕ) (fs : List ℕ) → last_in fs ≡ Some h → In h fs
last_is_in h [] e = cc
last_is_in h (x ∷ []) e = inl cc
last_is_in h (x ∷ (y ∷ ys)) e = inr (last_is_in h (y ∷ ys) e)

-- a task has opened its own finishes inside the one that it lives in
pub own_above : (f h : ℕ) (fs : List ℕ) → last_in fs ≡ Some h → Own f fs → Above f h fs
own_above f h [] e o = absurd o
own_above f h (x ∷ []) e o = absurd o
own_above f h (x ∷ (y ∷ ys)) e (inl o) = inl (o, last_is_in h (y ∷ ys) e)
own_above f h (x ∷ (y ∷ ys)) e (inr o) = inr (own_above f h (y ∷ ys) e o)

pub own_in : (f : ℕ) (fs : List ℕ) → Own f fs → In f fs
own_in f [] o = absurd o
own_in f (x ∷ []) o = absurd o
own_in f (x ∷ (y ∷ ys)) (inl o) = inl o
own_in f (x ∷ (y ∷ ys)) (inr o) = inr (own_in f (y ∷ ys) o)

pub alone_in : (f h : ℕ) → In f (h ∷ []) → f ≡ h
alone_in f h (inl e) = e
alone_in f h (inr i) = absurd i

pub alone_above : (g f h : ℕ) → Above g f (h ∷ []) → ⊥
alone_above g f h (inl e) = e.1
alone_above g f h (inr i) = i

pub after_case : (m : Order) (b a : ℕ) → T (at_or_after m b a) → (a ≡ b) ⊎ T (m.before a b)
after_case m b a t = grind arith

module _ {m : Order} {w : Ways} (k : Kept m w) where
  -- a finish of a running task is the one that it lives in, or its own
  pub seat : (t f : ℕ) → T (m.task t).running → In f (m.task t).finishes → (f ≡ w.home (m.task t).current) ⊎ Owns m t f
  seat t f run i = grind (arith, in_case)

  -- its own finishes have higher numbers than the one that it lives in
  pub own_up : (t f : ℕ) → Owns m t f → w.home (m.task t).current < f
  own_up t f (run, o) =
      let r = k.walker t run in
      r.nested f (w.home (m.task t).current) (own_above f (w.home (m.task t).current) (m.task t).finishes r.home_last o)

  pub own_held : (t f : ℕ) → Owns m t f → f < m.finishes
  own_held t f (run, o) = (k.walker t run).finish_held f (own_in f (m.task t).finishes o)

  -- finishes have higher and higher numbers on the way from step 0
  pub back_home : (y x : ℕ) → x < m.steps → Back w.from y x → w.home y ≤ w.home x
  back_home y x h here = omega arith
  back_home y x h (on z l b) =
      let i = k.grown.falls z (omega arith) h in
      let j = k.grown.home_up z (omega arith) h in
      let r = back_home y (w.from z) (omega arith) b in
      omega arith

  -- to be at or after a step is to find it
  pub after_finds : (a b : ℕ) → T (at_or_after m b a) → Finds w a b
  after_finds a b t = elim (after_case m b a t) [
    | inl e ↦ subst (Finds w a) e (a, stay, here)
    | inr i ↦ k.order.told a b i
  ]

  pub finds_after : (a b : ℕ) → a < m.steps → b < m.steps → Finds w a b → T (at_or_after m b a)
  finds_after a b l i f = elim (cases_eq a b) [
    | inl e ↦ or_l (eqb a b) (m.before a b) (yes_eqb e)
    | inr d ↦ or_r (eqb a b) (m.before a b) (k.order.found a b l i d f)
  ]

  pub after_held : (a b : ℕ) → b < m.steps → T (at_or_after m b a) → a < m.steps
  after_held a b l t = grind (arith, after_case, k.order.before_held a b)
