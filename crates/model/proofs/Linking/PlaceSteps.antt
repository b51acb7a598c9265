-- Each place of a past has a step: a close the one that it makes, any other event the one that it is done on.
use Rattle.std.proofs.Math.Facts.{or_yes, and_yes}
use Rattle.std.proofs.lemmas.Bool.Decides.{nat_tests}
use Rattle.std.proofs.Common.{◌≡◌, ℕ, ◌+◌, ◌<◌, ◌≤◌, Bool, cond, ◌&&◌, ◌||◌, T, eqb, ◌⊎◌, [], ◌∷◌, length, Some, sym, ap, ◌∙◌, inl, inr, arith, eqb→eq}
use Rattle.model.specs.declared.Event.{Event}
use Rattle.model.specs.declared.Event.TheVariants.{Spawn, End, Open, Close, Read, Write}
use Rattle.model.specs.Lists.{any, head_or, below}
use Rattle.model.specs.Past.{Past, Finish, at, actor, makes, home, innermost}
use Rattle.model.specs.Accesses.{CellKind}
use Rattle.model.specs.Orders.{Order, Task}
use Rattle.model.specs.Link.{number, order_of}
use Rattle.model.proofs.Shelf.Places.{at_top, at_lt, at_case}
use Rattle.model.proofs.Linking.Sound.{Known, HasEnded, Sound, stale, actor_known}
use Rattle.model.proofs.Linking.Keeper.{task_of, task_of_is, known_in}
use Rattle.model.proofs.Linking.Finishes
use Rattle.model.proofs.Linking.Finishes.{home_has, home_old, finish_number_old}
use Rattle.model.proofs.Linking.Reach.{head_is, empty_is}

module _ {C : Type 0} (k : CellKind C) (lim : ℕ) where
  -- the order that the keeper means after a past
  abbrev keeper : Past C → Order
  keeper h = order_of lim h

  -- the keeper's number of a finish
  abbrev finish_number : Past C → Finish → ℕ
  finish_number h f = Finishes.finish_number k lim h f

  -- the step that a task is on
  abbrev pub now : Past C → ℕ → ℕ
  now h t = (task_of k lim h t).current

  pub current_is : (h : Past C) → Sound k h → (t : ℕ) → Known k h t → ((keeper h).task (number h t)).current ≡ now h t
  current_is h s t q = ap (λ (x : Task). x.current) (task_of_is k lim h s t q)

  -- the step of an event: the one that a close makes, and that any other is done on
  abbrev pub event_step : Past C → Event C → ℕ
  event_step h (Spawn t u) = now h t
  event_step h (End t) = now h t
  event_step h (Open t) = now h t
  event_step h (Close t) = (keeper h).steps
  event_step h (Read t c) = now h t
  event_step h (Write t c) = now h t

  -- the step of a place
  abbrev pub place_step : Past C → ℕ → ℕ
  place_step [] i = 0
  place_step (e ∷ h) i = cond (eqb i (length h)) (event_step h e) (place_step h i)

  place_step_top : (h : Past C) (e : Event C) → place_step (e ∷ h) (length h) ≡ event_step h e
  place_step_top h e = grind arith

  pub place_step_old : (h : Past C) (e : Event C) (i : ℕ) → i < length h → place_step (e ∷ h) i ≡ place_step h i
  place_step_old h e i l = grind arith

  pub steps_grow : (h : Past C) (e : Event C) → (keeper h).steps ≤ (keeper (e ∷ h)).steps
  steps_grow h (Spawn a u) = omega arith
  steps_grow h e = omega arith

  -- the steps that tasks are on after an event
  pub now_child : (h : Past C) (a u t : ℕ) → t ≡ u → now (Spawn a u ∷ h) t ≡ (keeper h).steps
  now_child h a u t p = grind arith

  pub now_parent : (h : Past C) (a u t : ℕ) → (t ≡ u → ⊥) → t ≡ a → now (Spawn a u ∷ h) t ≡ (keeper h).steps + 1
  now_parent h a u t n p = grind arith

  pub now_open : (h : Past C) (a t : ℕ) → t ≡ a → now (Open a ∷ h) t ≡ (keeper h).steps
  now_open h a t p = grind arith

  pub now_close : (h : Past C) (a t : ℕ) → t ≡ a → now (Close a ∷ h) t ≡ (keeper h).steps
  now_close h a t p = grind arith

  pub now_end : (h : Past C) (a t : ℕ) → now (End a ∷ h) t ≡ now h t
  now_end h a t = grind arith

  -- a task that an event has nothing to do with stays on its step
  pub now_other : (h : Past C) (e : Event C) (t : ℕ) → (t ≡ actor e → ⊥) → (T (makes t e) → ⊥) → now (e ∷ h) t ≡ now h t
  now_other h (Spawn a u) t n m = grind arith
  now_other h e t n m = grind arith

  pub now_lt : (h : Past C) (t : ℕ) → now h t < (keeper h).steps
  now_lt [] t = omega arith
  now_lt (Spawn a u ∷ h) t = grind (arith, nat_tests, now_lt h)
  now_lt (e ∷ h) t = grind (arith, nat_tests, now_lt h)

  event_step_lt : (h : Past C) (e : Event C) → event_step h e < (keeper (e ∷ h)).steps
  event_step_lt h (Spawn a u) = let l = now_lt h a in omega arith
  event_step_lt h e = grind (arith, now_lt)

  pub place_step_lt : (h : Past C) (i : ℕ) → i < length h → place_step h i < (keeper h).steps
  place_step_lt [] i l = absurd (omega arith)
  place_step_lt (e ∷ h) i l = grind (arith, nat_tests, place_step_lt h, event_step_lt, steps_grow)

  -- before, on the steps held so far and on the new ones
  pub before_kept : (h : Past C) (e : Event C) (x b : ℕ) → b < (keeper h).steps → (keeper (e ∷ h)).before x b ≡ (keeper h).before x b
  before_kept h (Spawn a u) x b l = grind arith
  before_kept h e x b l = grind arith

  -- whether the step x is b, or before it
  abbrev pub is_upto : Past C → ℕ → ℕ → Bool
  is_upto h x b = eqb x b || (keeper h).before x b

  pub upto_kept : (h : Past C) (e : Event C) (x b : ℕ) → b < (keeper h).steps → is_upto (e ∷ h) x b ≡ is_upto h x b
  upto_kept h e x b l = ap (λ t. eqb x b || t) (before_kept h e x b l)

  -- what is before a new step: all up to the step of the task that makes it
  pub spawn_new : (h : Past C) → Sound k h → (a u : ℕ) → Known k h a → (x b : ℕ) → (b ≡ (keeper h).steps) ⊎ (b ≡ (keeper h).steps + 1)
      → (keeper (Spawn a u ∷ h)).before x b ≡ is_upto h x (now h a)
  spawn_new h s a u q x b c = grind (arith, nat_tests, current_is)

  pub open_new : (h : Past C) → Sound k h → (a : ℕ) → Known k h a → (x : ℕ)
      → (keeper (Open a ∷ h)).before x (keeper h).steps ≡ is_upto h x (now h a)
  open_new h s a q x = grind (arith, nat_tests, keeper, current_is)

  -- whether the finish f waits for the step x
  abbrev pub waits : Past C → ℕ → ℕ → Bool
  waits h f x = any (λ l. (keeper h).last f l && is_upto h x l) (below (keeper h).steps)

  pub close_new : (h : Past C) → Sound k h → (a : ℕ) → Known k h a → (HasEnded k h a → ⊥) → (x : ℕ)
      → (keeper (Close a ∷ h)).before x (keeper h).steps ≡ (is_upto h x (now h a) || waits h (finish_number h (innermost h a)) x)
  close_new h s a q n x = grind (arith, nat_tests, current_is, head_is)

  -- the task that a step belongs to
  abbrev pub owner : Past C → ℕ → ℕ
  owner [] x = 0
  owner (Spawn a u ∷ h) x = cond (eqb x (keeper h).steps) u (cond (eqb x ((keeper h).steps + 1)) a (owner h x))
  owner (End a ∷ h) x = owner h x
  owner (Open a ∷ h) x = cond (eqb x (keeper h).steps) a (owner h x)
  owner (Close a ∷ h) x = cond (eqb x (keeper h).steps) a (owner h x)
  owner (Read a c ∷ h) x = owner h x
  owner (Write a c ∷ h) x = owner h x

  owner_old : (h : Past C) (e : Event C) (x : ℕ) → x < (keeper h).steps → owner (e ∷ h) x ≡ owner h x
  owner_old h (Spawn a u) x l = grind arith
  owner_old h e x l = grind arith

  pub owner_now : (h : Past C) → Sound k h → (t : ℕ) → Known k h t → owner h (now h t) ≡ t
  owner_now [] s t q = grind arith
  owner_now (Spawn a u ∷ h) s t q = grind (arith, nat_tests, owner_now h, now_child, now_parent, now_other, owner_old, now_lt, known_in)
  owner_now (e ∷ h) s t q = grind (arith, nat_tests, owner_now h, now_child, now_parent, now_other, owner_old, now_lt, known_in, now_end, now_open, now_close)

  owner_event : (h : Past C) (e : Event C) → Sound k (e ∷ h) → owner (e ∷ h) (event_step h e) ≡ actor e
  owner_event h (Spawn a u) s = owner_old h (Spawn a u) (now h a) (now_lt h a) ∙ owner_now h s.1 a s.0.is_known
  owner_event h e s = grind (arith, nat_tests, now_lt, owner_now)

  -- a place's step belongs to the task of its event
  pub owner_place : (h : Past C) → Sound k h → (i : ℕ) (d : Event C) → at h i ≡ Some d → owner h (place_step h i) ≡ actor d
  owner_place [] s i d q = cc
  owner_place (e ∷ h) s i d q = grind (arith, nat_tests, owner_place h, at_case, owner_event, place_step_old, owner_old, place_step_lt)

  -- l is the last step of a task that ended in the finish f
  abbrev pub LastStep : Past C → ℕ → ℕ → Type 0
  LastStep h f l = (i : ℕ) × (w : ℕ) × (at h i ≡ Some (End w)) × (finish_number h (home h w) ≡ f) × (place_step h i ≡ l)

  finish_number_home : (h : Past C) (e : Event C) → Sound k (e ∷ h) → (w : ℕ) → Known k h w
      → finish_number (e ∷ h) (home (e ∷ h) w) ≡ finish_number h (home h w)
  finish_number_home h e s w q = grind (arith, nat_tests, home_old, stale, finish_number_old, home_has)

  last_step_keep : (h : Past C) (e : Event C) → Sound k (e ∷ h) → (f l : ℕ) → LastStep h f l → LastStep (e ∷ h) f l
  last_step_keep h e s f l r =
      let i = at_lt h r.0 (End r.1) r.2 in
      let known_ended = actor_known k h s.1 r.0 (End r.1) r.2 in grind (arith, nat_tests, finish_number_home, place_step_old)

  -- a task that ends is in its home
  end_head : (h : Past C) (a : ℕ) → Sound k (End a ∷ h) → head_or ((keeper h).task (number h a)).finishes 0 ≡ finish_number h (home h a)
  end_head h a s = grind (arith, nat_tests, head_is, empty_is)

  pub last_step_of : (h : Past C) → Sound k h → (f l : ℕ) → T ((keeper h).last f l) → LastStep h f l
  last_step_of [] s f l q = absurd q
  last_step_of (End a ∷ h) s f l q =
      let inner = head_or ((keeper h).task (number h a)).finishes 0 in
      let c = ((keeper h).task (number h a)).current in
      elim (or_yes (eqb f inner && eqb l c) ((keeper h).last f l) q) [
        | inl p ↦ (
          length h,
          a,
          at_top h (End a),
          sym (end_head h a s) ∙ sym (eqb→eq f inner ((and_yes (eqb f inner) (eqb l c) p).0)),
          place_step_top h (End a) ∙ (sym (current_is h s.1 a s.0.is_known) ∙ sym (eqb→eq l c ((and_yes (eqb f inner) (eqb l c) p).1))),
        )
        | inr p ↦ last_step_keep h (End a) s f l (last_step_of h s.1 f l p)
      ]
  last_step_of (e ∷ h) s f l q = last_step_keep h e s f l (last_step_of h s.1 f l q)

  last_step_more : (h : Past C) (e : Event C) (f l : ℕ) → T ((keeper h).last f l) → T ((keeper (e ∷ h)).last f l)
  last_step_more h (Spawn a u) f l q = q
  last_step_more h e f l q = grind arith

  last_step_top : (h : Past C) (w : ℕ) → Sound k (End w ∷ h) → T ((keeper (End w ∷ h)).last (finish_number h (home h w)) (now h w))
  last_step_top h w s =
      let f = finish_number h (home h w) in
      let inner = head_or ((keeper h).task (number h w)).finishes 0 in
      let c = ((keeper h).task (number h w)).current in
      grind (arith, nat_tests, end_head, current_is)

  pub last_step_by : (h : Past C) → Sound k h → (i w : ℕ) → at h i ≡ Some (End w)
      → T ((keeper h).last (finish_number h (home h w)) (place_step h i))
  last_step_by [] s i w q = cc
  last_step_by (e ∷ h) s i w q = elim (at_case h e i (End w) q) [
    | inl r ↦
        grind (arith, nat_tests, last_step_top)
    | inr r ↦ there (actor_known k h s.1 i (End w) r.1) (place_step h i) (place_step_old h e i r.0)
        (last_step_more h e (finish_number h (home h w)) (place_step h i) (last_step_by h s.1 i w r.1))
  ]
    where
      there : Known k h w → (x : ℕ) → place_step (e ∷ h) i ≡ x → T ((keeper (e ∷ h)).last (finish_number h (home h w)) x)
          → T ((keeper (e ∷ h)).last (finish_number (e ∷ h) (home (e ∷ h) w)) (place_step (e ∷ h) i))
      there known_w x p b = grind (arith, nat_tests, finish_number_home)
