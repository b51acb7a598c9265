-- Running tasks of a shape: their finishes, the steps that they are on, and the ways in which they cover a step.
use Rattle.std.proofs.Common.{◌≡◌, ℕ, ◌<◌, ◌≤◌, false, T, ◌⊎◌, List, [], ◌∷◌, sym, refl, ap, ◌∙◌, subst, inl, inr, arith}
use Rattle.model.specs.Lists.{head_or, put}
use Rattle.model.specs.Orders.{Order, Task, at_or_after}
use Rattle.model.specs.Labels.{Label, Under}
use Rattle.model.specs.Shapes.{In, Above, Stack, Covered, Shape}
use Rattle.model.proofs.Trees.Labels.{under_refl}

-- the innermost finish of a task lies over where the task is
pub stack_head : (m : Order) (lab node : ℕ → Label) (p : Label) (fs : List ℕ) → Stack m lab node p fs → Under (node (head_or fs 0)) p
stack_head m lab node p [] s = absurd s
stack_head m lab node p (h ∷ []) s = s
stack_head m lab node p (f ∷ (g ∷ fs)) s = subst (λ z. Under (node f) z) (sym s.2) (under_refl (node f))

pub stack_in : (m : Order) (lab node : ℕ → Label) (p : Label) (fs : List ℕ) → Stack m lab node p fs → In (head_or fs 0) fs
stack_in m lab node p [] s = absurd s
stack_in m lab node p (h ∷ fs) s = inl refl

-- a finish of a task is its innermost one, or the innermost one is above it
pub stack_split : (f : ℕ) (fs : List ℕ) → In f fs → (f ≡ head_or fs 0) ⊎ Above (head_or fs 0) f fs
stack_split f [] i = absurd i
stack_split f (x ∷ fs) (inl e) = inl e
stack_split f (x ∷ fs) (inr i) = inr (inl (refl, i))

-- after one task is changed: that one, or another
pub retask_case : (P : Task → Type 0) (task : ℕ → Task) (t : ℕ) (new : Task) (u : ℕ)
    → (u ≡ t → P new) → ((u ≡ t → ⊥) → P (task u)) → P (put task t new u)
retask_case P task t new u a b = grind arith

pub retask_at : (task : ℕ → Task) (t : ℕ) (new : Task) → put task t new t ≡ new
retask_at task t new = retask_case (λ k. k ≡ new) task t new t (λ e. refl) (λ d. absurd (d refl))

pub retask_off : (task : ℕ → Task) (t : ℕ) (new : Task) (u : ℕ) → (u ≡ t → ⊥) → put task t new u ≡ task u
retask_off task t new u d = retask_case (λ k. k ≡ task u) task t new u (λ e. absurd (d e)) (λ e. refl)

-- a running task has the finish f open
abbrev pub IsOpen : Order → ℕ → Type 0
IsOpen m f = (u : ℕ) × T (m.task u).running × In f (m.task u).finishes

-- the step x lies in a finish that a running task has open inside f
abbrev pub Inner : Order → (ℕ → Label) → (ℕ → Label) → ℕ → ℕ → Type 0
Inner m lab node f x = (u : ℕ) × (g : ℕ) × T (m.task u).running × Above g f (m.task u).finishes × Under (node g) (lab x)

-- a running task with the record k has f open and has come after x
abbrev pub Goes : Order → ℕ → ℕ → Task → Type 0
Goes n f x k = T k.running × In f k.finishes × T (at_or_after n k.current x)

-- a running task with the record k has g open inside f, and x lies in g
abbrev pub Holds : (ℕ → Label) → (ℕ → Label) → ℕ → ℕ → ℕ → Task → Type 0
Holds lab node f x g k = T k.running × Above g f k.finishes × Under (node g) (lab x)

-- the three ways in which a step is covered
pub by_task : (n : Order) (lab node : ℕ → Label) (f x u : ℕ) → Goes n f x (n.task u) → Covered n lab node f x
by_task n lab node f x u w = inl (u, w.0, w.1, w.2)

pub by_inner : (n : Order) (lab node : ℕ → Label) (f x u g : ℕ) → Holds lab node f x g (n.task u) → Covered n lab node f x
by_inner n lab node f x u g w = inr (inr (u, g, w.0, w.1, w.2))

pub by_last : (n : Order) (lab node : ℕ → Label) (f x l : ℕ) → T (n.last f l) → T (at_or_after n l x) → Covered n lab node f x
by_last n lab node f x l h k = inr (inl (l, h, k))

module _ {m : Order} {lab node : ℕ → Label} {by owner : ℕ → ℕ} (sh : Shape m lab node by owner) where
  pub no_before : (a b : ℕ) → m.steps ≤ a → m.before a b ≡ false
  no_before a b h = grind arith

  pub at_held : (s a : ℕ) → s < m.steps → T (at_or_after m s a) → a < m.steps
  at_held s a h k = grind arith

  -- a running task's current step is at or before no step but itself
  pub not_at : (s u : ℕ) → T (m.task u).running → T (at_or_after m s (m.task u).current) → (m.task u).current ≡ s
  not_at s u go k = grind arith

  pub current_apart : (t u : ℕ) → T (m.task t).running → T (m.task u).running → (m.task t).current ≡ (m.task u).current → t ≡ u
  current_apart t u a b e = sym (sh.runner t a).current_by ∙ ap by e ∙ (sh.runner u b).current_by

  -- what covers the current step: a finish of its own task, or a finish inside
  pub current_covered : (t : ℕ) → T (m.task t).running → (f : ℕ) → Covered m lab node f (m.task t).current
      → In f (m.task t).finishes ⊎ Inner m lab node f (m.task t).current
  current_covered t run f (inl (u, go, i, k)) = grind arith
  current_covered t run f (inr (inl (l, h, k))) = absurd ((sh.runner t run).going f l h (not_at l t run k))
  current_covered t run f (inr (inr c)) = inr c
