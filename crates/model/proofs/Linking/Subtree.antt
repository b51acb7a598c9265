-- The steps of a task and of all that it spawned stand together in serial order.
use Rattle.std.proofs.lemmas.Float.{T_from_true}
use Rattle.std.proofs.Math.Facts.{yes_eqb}
use Rattle.std.proofs.lemmas.Bool.Decides.{nat_tests}
use Rattle.std.proofs.Common.{◌≡◌, ℕ, ◌+◌, ◌<◌, ◌≤◌, Bool, cond, ◌||◌, T, eqb, ◌⊎◌, [], ◌∷◌, length, Some, sym, refl, ap, ◌∙◌, subst, subst₂, inl, inr, arith}
use lib.Dec.{eqb_refl}
use Rattle.std.proofs.lemmas.Bool.{cases_eq}
use Rattle.model.specs.declared.Event.{Event}
use Rattle.model.specs.declared.Event.TheVariants.{Spawn, End, Open, Close, Read, Write}
use Rattle.model.specs.Past.{Past, at, actor, makes}
use Rattle.model.specs.Accesses.{CellKind}
use Rattle.model.specs.Orders.{Order, earlier_with}
use Rattle.model.specs.Reached.{Reached, OrderLaws}
use Rattle.model.specs.Link.{number}
use Rattle.model.proofs.Shelf.Tests.{or_l, or_r, tried, cond_eq, cond_ne}
use Rattle.model.proofs.Shelf.Places.{at_old, at_lt, at_case}
use Rattle.model.proofs.Linking.Sound.{Known, Good, Sound, stale, known_new, actor_known, child_known}
use Rattle.model.proofs.Linking.Keeper.{known_in}
use Rattle.model.proofs.Linking.PlaceSteps.{current_is, now_child, now_parent, now_open, now_close, now_end, now_other, now_lt}
use Rattle.model.proofs.Linking.PlaceSteps.{spawn_new}
use Rattle.model.proofs.Linking.Steps
use Rattle.model.proofs.Linking.Steps.{upto_refl, upto_case, upto_trans, now_grows, upto_new, spawn_upto}
use Rattle.model.proofs.Linking.Words.{at_keeper}
use Rattle.model.proofs.Linking.DoneOn.{done_on_old, done_on_lt, goes_on_old}
use Rattle.model.proofs.Linking.Earlier.{with_old, with_new, with_both}

module _ {C : Type 0} where
  -- whether w is u, or was spawned by a task below u
  abbrev pub subtree : Past C → ℕ → ℕ → Bool
  subtree [] u w = eqb u w
  subtree (Spawn a v ∷ h) u w = cond (eqb w v) (eqb u v || subtree h u a) (subtree h u w)
  subtree (End a ∷ h) u w = subtree h u w
  subtree (Open a ∷ h) u w = subtree h u w
  subtree (Close a ∷ h) u w = subtree h u w
  subtree (Read a c ∷ h) u w = subtree h u w
  subtree (Write a c ∷ h) u w = subtree h u w

  -- a task that an event does not make stays below what it was below
  subtree_old : (h : Past C) (e : Event C) (u w : ℕ) → (T (makes w e) → ⊥) → subtree (e ∷ h) u w ≡ subtree h u w
  subtree_old h (Spawn a v) u w n = grind arith
  subtree_old h e u w n = grind arith

  -- the task that a spawn makes, and any other
  subtree_made : (h : Past C) (a v u w : ℕ) → w ≡ v → subtree (Spawn a v ∷ h) u w ≡ (eqb u v || subtree h u a)
  subtree_made h a v u w p = cond_eq w v _ _ p

  subtree_other : (h : Past C) (a v u w : ℕ) → (w ≡ v → ⊥) → subtree (Spawn a v ∷ h) u w ≡ subtree h u w
  subtree_other h a v u w n = cond_ne w v _ _ n

  pub subtree_refl : (h : Past C) (u : ℕ) → T (subtree h u u)
  subtree_refl [] u = eqb_refl u
  subtree_refl (Spawn a v ∷ h) u = grind (arith, nat_tests, subtree_refl h)
  subtree_refl (e ∷ h) u = grind (arith, subtree_refl h)

module _ {C : Type 0} (k : CellKind C) where
  -- what a known task is below is known
  subtree_known : (h : Past C) → Sound k h → (u w : ℕ) → Known k h w → T (subtree h u w) → Known k h u
  subtree_known [] s u w q b = grind arith
  subtree_known (Spawn a v ∷ h) s u w q b = grind (arith, nat_tests, subtree_known h)
  subtree_known (e ∷ h) s u w q b = grind (arith, nat_tests, subtree_known h)

  pub subtree_trans : (h : Past C) → Sound k h → (u v w : ℕ) → Known k h w → T (subtree h u v) → T (subtree h v w) → T (subtree h u w)
  subtree_trans [] s u v w q a b = grind arith
  subtree_trans (Spawn a z ∷ h) s u v w q x y = grind (arith, nat_tests, subtree_trans h, subtree_made, subtree_known, subtree_other, known_in)
  subtree_trans (e ∷ h) s u v w q x y = grind (arith, nat_tests, subtree_trans h)

  subtree_spawn : (h : Past C) (e : Event C) (a v : ℕ) → e ≡ Spawn a v → T (subtree (e ∷ h) a v)
  subtree_spawn h e a v p = grind (arith, nat_tests, subtree_refl)

  pub subtree_child : (h : Past C) → Sound k h → (i a v : ℕ) → at h i ≡ Some (Spawn a v) → T (subtree h a v)
  subtree_child [] s i a v q = cc
  subtree_child (e ∷ h) s i a v q = elim (at_case h e i (Spawn a v) q) [
    | inl r ↦ subtree_spawn h e a v r.1
    | inr r ↦ (
        let known_v = child_known k h i (Spawn a v) v r.1 (eqb_refl v) in
        subst T (sym (subtree_old h e a v (stale k h e s.0 v known_v))) (subtree_child h s.1 i a v r.1))
  ]

module _ {C : Type 0} (k : CellKind C) (lim : ℕ) (laws : (limit : ℕ) (m : Order) → Reached limit m → OrderLaws m) where
  open at_keeper k lim use {keeper, now, done_on, goes_on, StepBefore, Upto, StepEarlier}

  -- the laws of the order after a past
  abbrev law : (h : Past C) → Sound k h → OrderLaws (keeper h)
  law h s = Steps.law k lim laws h s

  -- serial order of the steps held stays
  earlier_eq : (h : Past C) (e : Event C) (x y : ℕ) → x < (keeper h).steps → y < (keeper h).steps → (x ≡ y → ⊥)
      → (keeper (e ∷ h)).earlier x y ≡ (keeper h).earlier x y
  earlier_eq h (Spawn a u) x y p q n = with_old (keeper h) ((keeper h).task (number h a)).current 2 x y p q n
  earlier_eq h e x y p q n = grind arith

  pub earlier_up : (h : Past C) (e : Event C) → Sound k h → (x y : ℕ) → StepEarlier h x y → StepEarlier (e ∷ h) x y
  earlier_up h e s x y b = grind (arith, nat_tests, law, earlier_eq)

  -- one of the new steps that stand where the task's step stood
  new_one : (h : Past C) → Sound k h → (a y new n : ℕ) → Known k h a → (keeper h).steps ≤ n → n < (keeper h).steps + new
      → StepEarlier h (now h a) y → T (earlier_with (keeper h) ((keeper h).task (number h a)).current new n y)
  new_one h s a y new n kn lo hi b = grind (arith, nat_tests, current_is, law, with_new, new)

  -- a new step of the event's task, or of the task that it makes, is earlier than y if the task's step was
  new_earlier : (h : Past C) (e : Event C) → Sound k (e ∷ h) → (t y : ℕ) → (t ≡ actor e) ⊎ T (makes t e)
      → StepEarlier h (now h (actor e)) y
      → StepEarlier (e ∷ h) (now (e ∷ h) t) y
  new_earlier h (Spawn a u) s t y c b = grind (arith, nat_tests, new_one, now_parent)
  new_earlier h e s t y c b = grind (arith, nat_tests, new_one, now_parent, now_end, now_open, now_close)

  -- the step of the event's task is up to the new one, of the task or of its child
  own_moved : (h : Past C) (e : Event C) → Sound k (e ∷ h) → (t : ℕ) → t ≡ actor e → Upto (e ∷ h) (now h (actor e)) (now (e ∷ h) t)
  own_moved h e s t p = grind (arith, nat_tests, now_grows k lim laws)

  moved_on : (h : Past C) (e : Event C) → Sound k (e ∷ h) → (t : ℕ) → (t ≡ actor e) ⊎ T (makes t e)
      → Upto (e ∷ h) (now h (actor e)) (now (e ∷ h) t)
  moved_on h (Spawn a u) s t c = grind (arith, nat_tests, spawn_upto k lim laws, now_child k lim, upto_refl k lim laws)
  moved_on h e s t c = elim c [ inl p ↦ own_moved h e s t p | inr m ↦ absurd m ]

  pub earlier_upto : (h : Past C) → Sound k h → (x y z : ℕ) → StepEarlier h x y → Upto h y z → StepEarlier h x z
  earlier_upto h s x y z a b = grind (arith, nat_tests, law)

  -- the step x stands between the steps lo and hi
  abbrev Between : Past C → ℕ → ℕ → ℕ → Type 0
  Between h lo hi x = StepEarlier h lo x × StepEarlier h x hi

  between_up : (h : Past C) (e : Event C) → Sound k h → (lo hi x : ℕ) → Between h lo hi x → Between (e ∷ h) lo hi x
  between_up h e s lo hi x b = (earlier_up h e s lo x b.0, earlier_up h e s x hi b.1)

  -- the step x stands between that of the spawn at p and the one on which its task goes on
  abbrev Within : Past C → ℕ → ℕ → Type 0
  Within h p x = Between h (done_on h p) (goes_on h p) x

  within_old : (h : Past C) (e : Event C) (p x : ℕ) → p < length h → Between (e ∷ h) (done_on h p) (goes_on h p) x → Within (e ∷ h) p x
  within_old h e p x l b = grind arith

  -- the new spawn itself: the task that it makes
  within_spawn : (h : Past C) (p t u w : ℕ) → p ≡ length h → Sound k (Spawn t u ∷ h) → Known k (Spawn t u ∷ h) w
      → T (subtree (Spawn t u ∷ h) u w) → Within (Spawn t u ∷ h) p (now (Spawn t u ∷ h) w)
  within_spawn h p t u w pl s kw b = elim (cases_eq w u) [
    | inl z ↦ (
        let h' = Spawn t u ∷ h in
        let n = now_child k lim h t u w z in
        let c = ((keeper h).task (number h t)).current in
        let one : StepBefore h' (now h t) (now h' w) =
        subst T (sym (spawn_new k lim h s.1 t u s.0.is_known (now h t) (now h' w) (inl n)))
        (upto_refl k lim laws h (now h t) (now h t) refl) in
        let two : StepEarlier h' (now h' w) ((keeper h).steps + 1) =
        T_from_true _ (with_both (keeper h) c 2 (now h' w) ((keeper h).steps + 1) (omega arith) (omega arith) (omega arith)) in
        subst₂ (λ lo hi. Between h' lo hi (now h' w)) (sym (cond_eq p (length h) _ _ pl)) (sym (cond_eq p (length h) _ _ pl))
        ((law h' s).before_earlier (now h t) (now h' w) one, two))
    | inr n ↦ grind (arith, nat_tests, subtree_known, known_in, subtree_other)
  ]

  within_top : (h : Past C) (e : Event C) → Sound k (e ∷ h) → (p t u w : ℕ) → p ≡ length h → e ≡ Spawn t u → Known k (e ∷ h) w
      → T (subtree (e ∷ h) u w) → Within (e ∷ h) p (now (e ∷ h) w)
  within_top h e s p t u w pl q kw b =
      subst (λ x. Within (x ∷ h) p (now (x ∷ h) w)) (sym q)
      (within_spawn h p t u w pl (subst (λ x. Sound k (x ∷ h)) q s) (subst (λ x. Known k (x ∷ h) w) q kw)
      (subst (λ x. T (subtree (x ∷ h) u w)) q b))

  -- where an event moves or makes a task below u, its own task was below u
  below_actor : (h : Past C) (e : Event C) (u w : ℕ) → Good k h e → Known k h u → (w ≡ actor e) ⊎ T (makes w e) → T (subtree (e ∷ h) u w)
      → T (subtree h u (actor e))
  below_actor h (Spawn a v) u w g ku c b = grind arith
  below_actor h e u w g ku c b = grind arith

  -- every task below the one that a spawn made is on a step between the spawn's and the one its task goes on with
  within_now : (h : Past C) → Sound k h → (p t u w : ℕ) → at h p ≡ Some (Spawn t u) → Known k h w → T (subtree h u w)
      → Within h p (now h w)
  within_now [] s p t u w q kw b = cc
  within_now (e ∷ h) s p t u w q kw b = elim (at_case h e p (Spawn t u) q) [
    | inl r ↦ within_top h e s p t u w r.0 r.1 kw b
    | inr r ↦ within_old h e p (now (e ∷ h) w) r.0 (elim (tried (eqb w (actor e) || makes w e)) [
      | inl c ↦ (
          let ku = child_known k h p (Spawn t u) u r.1 (eqb_refl u) in
          let i = within_now h s.1 p t u (actor e) r.1 s.0.is_known (below_actor h e u w s.0 ku (mine c) b) in (
            earlier_upto (e ∷ h) s (done_on h p) (now h (actor e)) (now (e ∷ h) w)
                (earlier_up h e s.1 (done_on h p) (now h (actor e)) i.0) (moved_on h e s w (mine c)),
            new_earlier h e s w (goes_on h p) (mine c) i.1,
          ))
      | inr c ↦ (
          let na : w ≡ actor e → ⊥ = λ z. c (or_l (eqb w (actor e)) (makes w e) (yes_eqb z)) in
          let nm : T (makes w e) → ⊥ = λ z. c (or_r (eqb w (actor e)) (makes w e) z) in
          let known_w : Known k h w = elim (known_new k h e w kw) [ inl m ↦ absurd (nm m) | inr z ↦ z ] in
          let i = within_now h s.1 p t u w r.1 known_w (subst T (subtree_old h e u w nm) b) in
          subst (Between (e ∷ h) (done_on h p) (goes_on h p)) (sym (now_other k lim h e w na nm))
          (between_up h e s.1 (done_on h p) (goes_on h p) (now h w) i))
    ])
  ]
    where
      mine : T (eqb w (actor e) || makes w e) → (w ≡ actor e) ⊎ T (makes w e)
      mine c = grind arith

  -- and so is every event of such a task
  pub within_at : (h : Past C) → Sound k h → (p t u x : ℕ) (d : Event C) → at h p ≡ Some (Spawn t u) → at h x ≡ Some d
      → T (subtree h u (actor d)) → Within h p (done_on h x)
  within_at [] s p t u x d q r b = cc
  within_at (e ∷ h) s p t u x d q r b =
      let known_d : Known k h (actor d) = elim (at_case h e x d r) [
        | inl z ↦ subst (λ y. Known k h (actor y)) z.1 s.0.is_known
        | inr z ↦ actor_known k h s.1 x d z.1
      ] in
      let below_d = subst T (subtree_old h e u (actor d) (stale k h e s.0 (actor d) known_d)) b in
      elim (at_case h e p (Spawn t u) q) [
        | inl v ↦ grind (arith, nat_tests, subtree_known)
        | inr v ↦ within_old h e p (done_on (e ∷ h) x) v.0 (elim (at_case h e x d r) [
          | inl z ↦ (
              let below_e : T (subtree h u (actor e)) = subst (λ y. T (subtree h u (actor y))) (sym z.1) below_d in
              let i = within_now h s.1 p t u (actor e) v.1 s.0.is_known below_e in
              subst (Between (e ∷ h) (done_on h p) (goes_on h p)) (sym (cond_eq x (length h) _ _ z.0))
              (between_up h e s.1 (done_on h p) (goes_on h p) (now h (actor e)) i))
          | inr z ↦ (
              let i = within_at h s.1 p t u x d v.1 z.1 below_d in
              subst (Between (e ∷ h) (done_on h p) (goes_on h p)) (sym (done_on_old k lim h e x z.0))
              (between_up h e s.1 (done_on h p) (goes_on h p) (done_on h x) i))
        ])
      ]

  -- a task's events go on from step to step
  done_on_now : (h : Past C) → Sound k h → (i : ℕ) (d : Event C) → at h i ≡ Some d → Upto h (done_on h i) (now h (actor d))
  done_on_now [] s i d q = cc
  done_on_now (e ∷ h) s i d q = elim (at_case h e i d q) [
    | inl r ↦ grind (arith, nat_tests, now_grows k lim laws)
    | inr r ↦ subst (λ x. Upto (e ∷ h) x (now (e ∷ h) (actor d))) (sym (done_on_old k lim h e i r.0))
        (upto_trans k lim laws (e ∷ h) s (done_on h i) (now h (actor d)) (now (e ∷ h) (actor d))
        (upto_new k lim laws h e (done_on h i) (now h (actor d)) (done_on_now h s.1 i d r.1) (now_lt k lim h (actor d)))
        (now_grows k lim laws h e s (actor d) (actor_known k h s.1 i d r.1)))
  ]

  pub done_on_task : (h : Past C) → Sound k h → (i j : ℕ) (d e : Event C) → i < j → at h i ≡ Some d → at h j ≡ Some e → actor d ≡ actor e
      → Upto h (done_on h i) (done_on h j)
  done_on_task [] s i j d f l p q a = cc
  done_on_task (e ∷ h) s i j d f l p q a =
      let lj = at_lt (e ∷ h) j f q in
      let li : i < length h = omega arith in
      let p' = sym (at_old h e i li) ∙ p in
      grind (arith, nat_tests, done_on_task h, done_on_old k lim, at_case, upto_new k lim laws, done_on_now, now_lt k lim, done_on_lt k lim)

  -- the step that a spawner goes on with is up to its current one
  goes_on_now : (h : Past C) → Sound k h → (p t u : ℕ) → at h p ≡ Some (Spawn t u) → Upto h (goes_on h p) (now h t)
  goes_on_now [] s p t u q = cc
  goes_on_now (e ∷ h) s p t u q = elim (at_case h e p (Spawn t u) q) [
    | inl r ↦ grind arith
    | inr r ↦ subst (λ x. Upto (e ∷ h) x (now (e ∷ h) t)) (sym (goes_on_old k lim h e p r.0))
        (upto_trans k lim laws (e ∷ h) s (goes_on h p) (now h t) (now (e ∷ h) t)
        (upto_new k lim laws h e (goes_on h p) (now h t) (goes_on_now h s.1 p t u r.1) (now_lt k lim h t))
        (now_grows k lim laws h e s t (actor_known k h s.1 p (Spawn t u) r.1)))
  ]

  -- after its spawn a task is on the step that it goes on with, or later
  pub goes_on_task : (h : Past C) → Sound k h → (p t u j : ℕ) (d : Event C) → p < j → at h p ≡ Some (Spawn t u) → at h j ≡ Some d
      → actor d ≡ t
      → Upto h (goes_on h p) (done_on h j)
  goes_on_task [] s p t u j d l q r a = cc
  goes_on_task (e ∷ h) s p t u j d l q r a =
      let lj = at_lt (e ∷ h) j d r in
      let lp : p < length h = omega arith in
      let q' = sym (at_old h e p lp) ∙ q in
      subst (λ x. Upto (e ∷ h) x (done_on (e ∷ h) j)) (sym (goes_on_old k lim h e p lp)) (elim (at_case h e j d r) [
        | inl z ↦ subst (λ x. Upto (e ∷ h) (goes_on h p) x) (sym (cond_eq j (length h) _ _ z.0))
            (subst (λ x. Upto (e ∷ h) (goes_on h p) (now h x)) (sym (ap actor z.1 ∙ a))
            (upto_new k lim laws h e (goes_on h p) (now h t) (goes_on_now h s.1 p t u q') (now_lt k lim h t)))
        | inr z ↦ subst (λ x. Upto (e ∷ h) (goes_on h p) x) (sym (done_on_old k lim h e j z.0))
            (upto_new k lim laws h e (goes_on h p) (done_on h j)
            (goes_on_task h s.1 p t u j d l q' z.1 a) (done_on_lt k lim h j z.0))
      ])
