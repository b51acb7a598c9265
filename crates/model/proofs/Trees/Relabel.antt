-- A shape depends only on the labels of held steps and on the nodes of held finishes.
use Rattle.std.proofs.Common.{◌≡◌, ℕ, suc, ◌<◌, T, ◌⊎◌, List, [], ◌∷◌, ◌++◌, sym, refl, ap, ◌∙◌, subst, ap₂, inl, inr}
use Rattle.model.specs.Orders.{Order, Task}
use Rattle.model.specs.Labels.{Label, left, over, Under, Low}
use Rattle.model.specs.Trees.{Labelled}
use Rattle.model.specs.Shapes.{In, Above, Lows, Stack, Runner, Covered, Shape}

-- both finishes of `Above` are in the list
pub above_in : (g f : ℕ) (fs : List ℕ) → Above g f fs → In f fs
above_in g f [] h = h
above_in g f (x ∷ fs) (inl h) = inr h.1
above_in g f (x ∷ fs) (inr h) = inr (above_in g f fs h)

pub above_top : (g f : ℕ) (fs : List ℕ) → Above g f fs → In g fs
above_top g f [] h = h
above_top g f (x ∷ fs) (inl h) = inl h.0
above_top g f (x ∷ fs) (inr h) = inr (above_top g f fs h)

-- a stack goes over to another order if its levels do
pub stack_map : (m n : Order) (lab node lab₂ node₂ : ℕ → Label) (p : Label) (fs : List ℕ)
    → ((f : ℕ) → In f fs → node f ≡ node₂ f)
    → ((f g : ℕ) (q : Label) (k : ℕ) → Above f g fs → node f ≡ q ++ (k ∷ []) → Lows m lab node q (suc k) → Lows n lab₂ node₂ q (suc k))
    → Stack m lab node p fs → Stack n lab₂ node₂ p fs
stack_map m n lab node lab₂ node₂ p [] same grow s = s
stack_map m n lab node lab₂ node₂ p (h ∷ []) same grow s = subst (λ z. Under z p) (same h (inl refl)) s
stack_map m n lab node lab₂ node₂ p (f ∷ (g ∷ fs)) same grow s = (
  s.0,
  s.1,
  s.2 ∙ same f (inl refl),
  sym (same f (inl refl)) ∙ s.3,
  s.4,
  grow f g s.0 s.1 (inl (refl, inl refl)) s.3 s.5,
  stack_map m n lab node lab₂ node₂ s.0 (g ∷ fs) (λ x i. same x (inr i)) (λ x y q k a. grow x y q k (inr a)) s.6,
)

-- labels, nodes and tasks that are the same wherever the order holds a step or a finish
module _ (m : Order) (lab node lab₂ node₂ : ℕ → Label) (by owner by₂ owner₂ : ℕ → ℕ)
    (same_lab : (x : ℕ) → x < m.steps → lab x ≡ lab₂ x) (same_node : (f : ℕ) → f < m.finishes → node f ≡ node₂ f)
    (same_by : (x : ℕ) → x < m.steps → by x ≡ by₂ x) (same_owner : (f : ℕ) → f < m.finishes → owner f ≡ owner₂ f) where
  lows_same : (p : Label) (n : ℕ) → Lows m lab node p n → Lows m lab₂ node₂ p n
  lows_same p n l =
      record {
        step_low = λ x h. subst (Low p n) (same_lab x h) (l.step_low x h);
        node_low = λ f h. subst (Low p n) (same_node f h) (l.node_low f h);
      }

  labelled_same : Labelled m lab → Labelled m lab₂
  labelled_same l =
      record {
        before_is = λ a b h k. l.before_is a b h k ∙ ap₂ over (same_lab a h) (same_lab b k);
        earlier_is = λ a b h k. l.earlier_is a b h k ∙ ap₂ left (same_lab a h) (same_lab b k);
        apart = λ a b h k e. l.apart a b h k (same_lab a h ∙ e ∙ sym (same_lab b k));
        leaf = λ a b h k u. l.leaf a b h k (u.0, same_lab b k ∙ u.1 ∙ ap (λ z. z ++ u.0) (sym (same_lab a h)));
      }

  seat_same : (f t : ℕ) → f < m.finishes → (owner f ≡ t) ⊎ T (m.lives f t) → (owner₂ f ≡ t) ⊎ T (m.lives f t)
  seat_same f t h (inl e) = inl (sym (same_owner f h) ∙ e)
  seat_same f t h (inr l) = inr l

  runner_same : (t : ℕ) (k : Task) → Runner m lab node by owner t k → Runner m lab₂ node₂ by₂ owner₂ t k
  runner_same t k r =
      record {
        held = r.held;
        current_held = r.current_held;
        current_by = sym (same_by k.current r.current_held) ∙ r.current_by;
        tip = r.tip;
        going = r.going;
        finish_held = r.finish_held;
        seat = λ f i. seat_same f t (r.finish_held f i) (r.seat f i);
        owns = λ g f a. (sym (same_owner g (r.finish_held g (above_top g f k.finishes a))) ∙ (r.owns g f a).0, (r.owns g f a).1);
        path = r.path;
        turn = r.turn;
        at = sym (same_lab k.current r.current_held) ∙ r.at;
        even = r.even;
        step_low = λ x h n. subst (Low r.path r.turn) (same_lab x h) (r.step_low x h n);
        node_low = λ f h. subst (Low r.path r.turn) (same_node f h) (r.node_low f h);
        stack = stack_map m m lab node lab₂ node₂ r.path k.finishes (λ f i. same_node f (r.finish_held f i))
            (λ f g q n a e l. lows_same q (suc n) l) r.stack;
      }

  covered_same : (sh : Shape m lab node by owner) (f x : ℕ) → x < m.steps → Covered m lab node f x → Covered m lab₂ node₂ f x
  covered_same sh f x h (inl c) = inl c
  covered_same sh f x h (inr (inl c)) = inr (inl c)
  covered_same sh f x h (inr (inr c)) =
      inr (inr (
        c.0,
        c.1,
        c.2,
        c.3,
        under_same c.1 x ((sh.runner c.0 c.2).finish_held c.1 (above_top c.1 f (m.task c.0).finishes c.3)) h c.4,
      ))
    where
      under_same : (g x : ℕ) → g < m.finishes → x < m.steps → Under (node g) (lab x) → Under (node₂ g) (lab₂ x)
      under_same g x k h u = (u.0, sym (same_lab x h) ∙ u.1 ∙ ap (λ z. z ++ u.0) (same_node g k))

  pub relabel : Shape m lab node by owner → Shape m lab₂ node₂ by₂ owner₂
  relabel sh =
      record {
        before_held = sh.before_held;
        earlier_held = sh.earlier_held;
        labelled = labelled_same sh.labelled;
        node_apart = λ f g h k e. sh.node_apart f g h k (same_node f h ∙ e ∙ sym (same_node g k));
        last_held = sh.last_held;
        last_under = λ f l h.
            let u = sh.last_under f l h in
            (u.0, sym (same_lab l (sh.last_held f l h).1) ∙ u.1 ∙ ap (λ z. z ++ u.0) (same_node f (sh.last_held f l h).0));
        runner = λ t r. runner_same t (m.task t) (sh.runner t r);
        covered = λ v f x r i h u.
            let k : f < m.finishes = (sh.runner v r).finish_held f i in
            covered_same sh f x h (sh.covered v f x r i h (u.0, same_lab x h ∙ u.1 ∙ ap (λ z. z ++ u.0) (sym (same_node f k))));
      }
