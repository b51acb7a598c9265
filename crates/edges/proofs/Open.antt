-- A running task opens a finish.
use Rattle.std.proofs.Common.{◌≡◌, ℕ, ◌+◌, ◌<◌, T, ◌⊎◌, List, [], ◌∷◌, Some, sym, subst, inl, inr, arith}
use Rattle.model.specs.Lists.{last_in}
use Rattle.model.specs.Orders.{Order}
use Rattle.model.specs.Shapes.{In, Above}
use Rattle.edges.specs.Ways.{Ways}
use Rattle.edges.proofs.Kept.{Own, Owns, Stands, Walker, Kept, own_held}
use Rattle.edges.proofs.Refit.{walker_keep, grown_keep, told_keep, Refits, own, task_case, owns_of, owns_old, refit_kept}

last_more : (g h : ℕ) (fs : List ℕ) → last_in fs ≡ Some h → last_in (g ∷ fs) ≡ Some h
last_more g h [] e = cc
last_more g h (x ∷ fs) e = e

own_more : (f g h : ℕ) (fs : List ℕ) → last_in fs ≡ Some h → Own f fs → Own f (g ∷ fs)
own_more f g h [] e o = absurd o
own_more f g h (x ∷ fs) e o = inr o

own_less : (f g : ℕ) (fs : List ℕ) → Own f (g ∷ fs) → (f ≡ g) ⊎ Own f fs
own_less f g [] o = absurd o
own_less f g (x ∷ fs) o = o

module _ {m n : Order} {w : Ways} {t : ℕ} (k : Kept m w) (a : Refits m n t (m.finishes ∷ (m.task t).finishes))
    (more : n.finishes ≡ m.finishes + 1) (before_is : (x y : ℕ) → n.before x y ≡ m.before x y) where
  now : Walker m w t (m.task t)
  now = k.walker t a.run

  -- t owns what it owned, and the new finish
  owns_more : (x f : ℕ) → Owns m x f → Owns n x f
  owns_more x f =
      owns_old k a x f (own_more f m.finishes (w.home (m.task t).current) (m.task t).finishes now.home_last)

  owns_less : (x f : ℕ) → Owns n x f → Owns m x f ⊎ ((x ≡ t) × (f ≡ m.finishes))
  owns_less x f o = grind (arith, owns_of, own_less)

  -- the new finish has one owner, and no task has lived in it
  one_owner : (x y f : ℕ) → Owns n x f → Owns n y f → x ≡ y
  one_owner x y f o p = grind (arith, owns_less x f o, owns_less y f p, own_held k x f, own_held k y f, k.one_owner x y f)

  -- a finish that a task has lived in is not new
  stands_held : (f x : ℕ) → Stands m w f x → f < m.finishes
  stands_held f x = grind arith

  owned : (x f z : ℕ) → Stands m w f z → Owns n x f → Owns m x f
  owned x f z st o = grind (arith, owns_less, stands_held f z st)

  walker_old : (x : ℕ) → T (m.task x).running → Walker n w x (m.task x)
  walker_old x run =
      let r = k.walker x run in
      walker_keep m n w w.shut x (m.task x) a.steps_is (omega arith) r (a.lives_more (w.home (m.task x).current) x r.lives)
      r.open_still r.awake (λ y. owns_more y (w.home (m.task x).current))

  walker_new : Walker n w t (own k a)
  walker_new =
      let r = walker_old t a.run in
      let g : ℕ = m.finishes in
      record {
        current_held = r.current_held;
        home_last = last_more g (w.home (m.task t).current) (m.task t).finishes now.home_last;
        lives = r.lives;
        finish_held = held;
        nested = nested;
        open_still = still;
        awake = r.awake;
        within = r.within;
      }
    where
      held : (f : ℕ) → In f (m.finishes ∷ (m.task t).finishes) → f < n.finishes
      held f (inl e) = omega arith
      held f (inr i) = let l = now.finish_held f i in omega arith

      nested : (g f : ℕ) → Above g f (m.finishes ∷ (m.task t).finishes) → f < g
      nested g f (inl (e, i)) = let l = now.finish_held f i in omega arith
      nested g f (inr i) = now.nested g f i

      still : (f : ℕ) → In f (m.finishes ∷ (m.task t).finishes) → w.shut f ≡ 0
      still f (inl e) = k.grown.shut_held f (omega arith)
      still f (inr i) = now.open_still f i

  walker_on : (x : ℕ) → T (n.task x).running → Walker n w x (n.task x)
  walker_on x =
      task_case k a (λ z. T z.running → Walker n w x z) x (λ e run. subst (λ z. Walker n w z (own k a)) (sym e) walker_new)
      (λ d. walker_old x)

  pub open_kept : Kept n w
  open_kept =
      refit_kept k a w.shut (grown_keep m n w a.steps_is (omega arith) k.grown) walker_on one_owner owned
      (told_keep m n w a.steps_is before_is k.order)
