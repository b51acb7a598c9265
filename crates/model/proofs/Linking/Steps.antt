-- Happens-before of a past is the order of its steps: places of one step in turn, and places of two steps as the keeper orders these.
use Rattle.std.proofs.Math.Facts.{or_yes, yes_and, and_yes, yes_eqb}
use Rattle.std.proofs.lemmas.Bool.Decides.{nat_tests}
use Rattle.std.proofs.Common.{◌≡◌, ℕ, suc, ◌+◌, ◌<◌, ◌≤◌, ◌&&◌, ◌||◌, T, eqb, ◌⊎◌, [], ◌∷◌, length, Some, sym, refl, ap, ◌∙◌, subst, subst₂, inl, inr, arith, eqb→eq}
use lib.Dec.{eqb_refl}
use Rattle.std.proofs.lemmas.Bool.{cases_eq}
use Rattle.model.specs.declared.Event.{Event}
use Rattle.model.specs.declared.Event.TheVariants.{Spawn, End, Open, Close, Read, Write}
use Rattle.model.specs.Past.{Past, at, actor, makes, ends, home, innermost, same_finish}
use Rattle.model.specs.Before.{leads, awaited, before}
use Rattle.model.specs.Accesses.{CellKind}
use Rattle.model.specs.Orders.{Order}
use Rattle.model.specs.Reached.{Reached, OrderLaws}
use Rattle.model.proofs.Shelf.Tests.{or_l, or_r, tried, cond_eq}
use Rattle.model.proofs.Shelf.Lists.{any_below_of, any_below_in}
use Rattle.model.proofs.Shelf.Places.{at_top, at_old, at_lt, at_some, at_case}
use Rattle.model.proofs.Shelf.Befores.{Lead, before_lead, lead_before, before_old, before_lt}
use Rattle.model.proofs.Linking.Sound.{Known, Sound, known_new, actor_known, child_known, end_last}
use Rattle.model.proofs.Linking.Finishes.{home_has, inner_has, finish_number_inj, same_finish_eq, same_finish_refl}
use Rattle.model.proofs.Linking.Reach.{keeper_reached, runs_now}
use Rattle.model.proofs.Linking.Words.{at_keeper}
use Rattle.model.proofs.Shelf.Places.{ends_is}
use Rattle.model.proofs.Linking.PlaceSteps.{current_is, place_step_old, now_child, now_parent, now_open, now_close, now_end, now_other}
use Rattle.model.proofs.Linking.PlaceSteps.{now_lt, place_step_lt, before_kept, is_upto, upto_kept, spawn_new, open_new, waits, close_new}
use Rattle.model.proofs.Linking.PlaceSteps.{owner_now, owner_place, last_step_of, last_step_by}

module _ {C : Type 0} (k : CellKind C) (lim : ℕ) (laws : (limit : ℕ) (m : Order) → Reached limit m → OrderLaws m) where
  open at_keeper k lim use {keeper, now, event_step, place_step, owner, finish_number, Upto, StepBefore}

  -- the laws of the order after a past
  pub law : (h : Past C) → Sound k h → OrderLaws (keeper h)
  law h s = laws lim (keeper h) (keeper_reached k lim h s)

  pub upto_refl : (h : Past C) (x y : ℕ) → x ≡ y → Upto h x y
  upto_refl h x y e = grind arith

  pub upto_before : (h : Past C) (x y : ℕ) → StepBefore h x y → Upto h x y
  upto_before h x y b = grind arith

  pub upto_case : (h : Past C) (x y : ℕ) → Upto h x y → (x ≡ y) ⊎ StepBefore h x y
  upto_case h x y u = grind arith

  pub upto_trans : (h : Past C) → Sound k h → (x y z : ℕ) → Upto h x y → Upto h y z → Upto h x z
  upto_trans h s x y z p q = grind (arith, nat_tests, upto_before, law)

  -- up to a step that an event adds
  pub upto_new : (h : Past C) (e : Event C) (x y : ℕ) → Upto h x y → y < (keeper h).steps → Upto (e ∷ h) x y
  upto_new h e x y u l = grind arith

  before_irrefl : (h : Past C) → Sound k h → (x : ℕ) → StepBefore h x x → ⊥
  before_irrefl h s x b = (law h s).earlier_irrefl x ((law h s).before_earlier x x b)

  -- what is up to the spawner's step is up to both new steps
  pub spawn_upto : (h : Past C) (a u : ℕ) → Sound k (Spawn a u ∷ h) → (x y : ℕ) → (y ≡ (keeper h).steps) ⊎ (y ≡ (keeper h).steps + 1)
      → Upto h x (now h a) → Upto (Spawn a u ∷ h) x y
  spawn_upto h a u s x y new up =
      upto_before (Spawn a u ∷ h) x y (subst T (sym (spawn_new k lim h s.1 a u s.0.is_known x y new)) up)

  -- a known task's step only moves on
  pub now_grows : (h : Past C) (e : Event C) → Sound k (e ∷ h) → (t : ℕ) → Known k h t → Upto (e ∷ h) (now h t) (now (e ∷ h) t)
  now_grows h (Spawn a u) s t q = grind (arith, nat_tests, spawn_upto, now_parent, upto_refl, now_other)
  now_grows h e s t q = grind (arith, nat_tests, now_parent, upto_refl, now_other, now_end, upto_before, now_open, open_new, now_close, close_new)

  -- an event's step is up to its task's next one, and up to the first one of the task that it makes
  event_actor : (h : Past C) (e : Event C) → Sound k (e ∷ h) → Upto (e ∷ h) (event_step h e) (now (e ∷ h) (actor e))
  event_actor h (Close a) s = upto_refl (Close a ∷ h) (keeper h).steps (now (Close a ∷ h) a) (sym (now_close k lim h a a refl))
  event_actor h e s = now_grows h e s (actor e) s.0.is_known

  event_child : (h : Past C) (e : Event C) → Sound k (e ∷ h) → (u : ℕ) → T (makes u e) → Upto (e ∷ h) (event_step h e) (now (e ∷ h) u)
  event_child h (Spawn a v) s u m = grind (arith, nat_tests, spawn_upto, now_child, upto_refl)
  event_child h e s u m = grind arith

  -- the step of each event of a task, or that made it, is up to the task's current one
  pub past_now : (h : Past C) → Sound k h → (i : ℕ) (d : Event C) (t : ℕ) → at h i ≡ Some d → T (eqb (actor d) t || makes t d)
      → Upto h (place_step h i) (now h t)
  past_now [] s i d t q b = cc
  past_now (e ∷ h) s i d t q b = elim (at_case h e i d q) [
    | inl r ↦ grind (arith, nat_tests, top)
    | inr r ↦ subst (λ x. Upto (e ∷ h) x (now (e ∷ h) t)) (sym (place_step_old k lim h e i r.0))
        (upto_trans (e ∷ h) s (place_step h i) (now h t) (now (e ∷ h) t)
        (upto_new h e (place_step h i) (now h t) (past_now h s.1 i d t r.1 b) (now_lt k lim h t))
        (now_grows h e s t (kn r.1)))
  ]
    where
      top : T (eqb (actor e) t || makes t e) → Upto (e ∷ h) (event_step h e) (now (e ∷ h) t)
      top c = grind (arith, nat_tests, event_actor, event_child)

      kn : at h i ≡ Some d → Known k h t
      kn r = grind (arith, nat_tests, actor_known, child_known)

  -- an event that leads to the next one has its step up to the next one's
  now_event : (h : Past C) (e : Event C) → Sound k (e ∷ h) → Upto (e ∷ h) (now h (actor e)) (event_step h e)
  now_event h (Close a) s =
      subst (λ x. Upto (Close a ∷ h) (now h a) x) (now_close k lim h a a refl) (now_grows h (Close a) s a s.0.is_known)
  now_event h (Read a c) s = upto_refl h (now h a) (now h a) refl
  now_event h (Write a c) s = upto_refl h (now h a) (now h a) refl
  now_event h e s = upto_refl (e ∷ h) (now h (actor e)) (now h (actor e)) refl

  -- an end that a close awaited has its step up to the close's
  await_event : (h : Past C) (e : Event C) → Sound k (e ∷ h) → (i : ℕ) (d : Event C) → at h i ≡ Some d → T (awaited h d e)
      → Upto (e ∷ h) (place_step h i) (event_step h e)
  await_event h (Close a) s i d q w =
      let at_home = same_finish (home h (actor d)) (innermost h a) in
      let an_end = ends_is (actor d) d ((and_yes (ends (actor d) d) at_home w).0) in
      let same = same_finish_eq (home h (actor d)) (innermost h a) ((and_yes (ends (actor d) d) at_home w).1) in
      let f = finish_number h (innermost h a) in
      let l = place_step h i in
      let z : T ((keeper h).last f l) =
      subst (λ x. T ((keeper h).last (finish_number h x) l)) same (last_step_by k lim h s.1 i (actor d) (q ∙ ap Some an_end)) in
      upto_before (Close a ∷ h) l (keeper h).steps
      (subst T (sym (close_new k lim h s.1 a s.0.is_known s.0.runs l))
      (or_r (is_upto k lim h l (now h a)) (waits k lim h f l)
      (any_below_in (λ x. (keeper h).last f x && is_upto k lim h l x) (keeper h).steps l (place_step_lt k lim h i (at_lt h i d q))
      (yes_and ((keeper h).last f l) (is_upto k lim h l l) z (upto_refl h l l refl)))))
  await_event h e s i d q w = absurd w

  lead_event : (h : Past C) (e : Event C) → Sound k (e ∷ h) → (i : ℕ) (d : Event C) → at h i ≡ Some d → T (leads h d e)
      → Upto (e ∷ h) (place_step h i) (event_step h e)
  lead_event h e s i d q l = grind (arith, nat_tests, by_now, await_event)
    where
      by_now : T (eqb (actor d) (actor e) || makes (actor e) d) → Upto (e ∷ h) (place_step h i) (event_step h e)
      by_now b = upto_trans (e ∷ h) s (place_step h i) (now h (actor e)) (event_step h e)
          (upto_new h e (place_step h i) (now h (actor e)) (past_now h s.1 i d (actor e) q b) (now_lt k lim h (actor e)))
          (now_event h e s)

  -- happens before goes by steps
  pub before_upto : (h : Past C) → Sound k h → (i j : ℕ) → T (before h i j) → Upto h (place_step h i) (place_step h j)
  before_upto [] s i j b = absurd b
  before_upto (e ∷ h) s i j b = elim (cases_eq j (length h)) [
    | inl p ↦ (
        let r = before_lead h e i (subst (λ x. T (before (e ∷ h) i x)) p b) in
        let j' = r.0 in
        let lj = at_lt h j' r.1 r.2 in
        let li : i < length h = elim (or_yes (eqb i j') (before h i j') r.4) [
          | inl z ↦ (let z' = eqb→eq i j' z in omega arith)
          | inr z ↦ (let z' = before_lt h i j' z in omega arith)
        ] in
        let first : Upto h (place_step h i) (place_step h j') = elim (or_yes (eqb i j') (before h i j') r.4) [
          | inl z ↦ upto_refl h (place_step h i) (place_step h j') (ap (place_step h) (eqb→eq i j' z))
          | inr z ↦ before_upto h s.1 i j' z
        ] in
        let whole : Upto (e ∷ h) (place_step h i) (event_step h e) =
        upto_trans (e ∷ h) s (place_step h i) (place_step h j') (event_step h e)
        (upto_new h e (place_step h i) (place_step h j') first (place_step_lt k lim h j' lj))
        (lead_event h e s j' r.1 r.2 r.3) in
        subst₂ (Upto (e ∷ h)) (sym (place_step_old k lim h e i li)) (sym (cond_eq j (length h) _ _ p)) whole)
    | inr n ↦ grind (arith, nat_tests, before_upto h, before_lt, place_step_old, upto_new, place_step_lt)
  ]

  -- two places of one step
  same_step : (h : Past C) → Sound k h → (i j : ℕ) → i < j → j < length h → place_step h i ≡ place_step h j → T (before h i j)
  same_step [] s i j l m e = absurd (omega arith)
  same_step (e ∷ h) s i j l m q = elim (cases_eq j (length h)) [
    | inl p ↦ (
        let li : i < length h = omega arith in
        let d = at_some h i li in
        let oi = owner_place k lim (e ∷ h) s i d.0 (at_old h e i li ∙ d.1) in
        let oj = owner_place k lim (e ∷ h) s j e (cond_eq j (length h) _ _ p) in
        let same : actor d.0 ≡ actor e = sym oi ∙ (ap (owner (e ∷ h)) q ∙ oj) in
        subst (λ x. T (before (e ∷ h) i x)) (sym p)
        (lead_before h e i (
          i,
          d.0,
          d.1,
          or_l (eqb (actor d.0) (actor e)) (makes (actor e) d.0 || awaited h d.0 e) (yes_eqb same),
          or_l (eqb i i) (before h i i) (eqb_refl i),
        )))
    | inr n ↦ grind (arith, nat_tests, same_step h)
  ]

  -- an event of the task, or that made it, at or after i
  abbrev pub ThroughTask : Past C → ℕ → ℕ → Type 0
  ThroughTask h i t = (j : ℕ) × (d : Event C) × (at h j ≡ Some d) × T (eqb (actor d) t || makes t d) × T (eqb i j || before h i j)

  -- the step that the next event is done on is before no step held so far, and neither is the event's own
  now_last : (h : Past C) (e : Event C) → Sound k (e ∷ h) → (y : ℕ) → StepBefore h (now h (actor e)) y → ⊥
  now_last h e s y b = grind (arith, nat_tests, law, runs_now k lim, current_is k lim, s.0.is_known)

  event_last : (h : Past C) (e : Event C) → Sound k (e ∷ h) → (y : ℕ) → StepBefore h (event_step h e) y → ⊥
  event_last h (Close a) s y b = let l = (law h s.1).before_held (keeper h).steps y b in omega arith
  event_last h e s y b = now_last h e s y b

  -- the next event is done on no other task's step
  now_apart : (h : Past C) → Sound k h → (t u : ℕ) → Known k h t → Known k h u → now h u ≡ now h t → t ≡ u
  now_apart h s t u q r p = sym (owner_now k lim h s t q) ∙ (ap (owner h) (sym p) ∙ owner_now k lim h s u r)

  event_other : (h : Past C) (e : Event C) → Sound k (e ∷ h) → (t : ℕ) → Known k h t → (t ≡ actor e → ⊥) → event_step h e ≡ now h t → ⊥
  event_other h (Close a) s t q n p = let l = now_lt k lim h t in omega arith
  event_other h e s t q n p = grind (arith, nat_tests, now_apart)

  -- what is up to the next step of the tasks that an event moves or makes is up to the event's own
  old_new : (h : Past C) (e : Event C) (x y : ℕ) → x < (keeper h).steps → (keeper h).steps ≤ y → Upto (e ∷ h) x y
      → StepBefore (e ∷ h) x y
  old_new h e x y l m u = elim (upto_case (e ∷ h) x y u) [ inl p ↦ absurd (omega arith) | inr b ↦ b ]

  touched : (h : Past C) (e : Event C) → Sound k (e ∷ h) → (t x : ℕ) → (t ≡ actor e) ⊎ T (makes t e) → x < (keeper h).steps
      → Upto (e ∷ h) x (now (e ∷ h) t) → Upto (e ∷ h) x (event_step h e)
  touched h (Spawn a u) s t x c l q =
      upto_new h (Spawn a u) x (now h a)
      (subst T (spawn_new k lim h s.1 a u s.0.is_known x (now (Spawn a u ∷ h) t) new)
      (old_new h (Spawn a u) x (now (Spawn a u ∷ h) t) l high q))
      (now_lt k lim h a)
    where
      new : (now (Spawn a u ∷ h) t ≡ (keeper h).steps) ⊎ (now (Spawn a u ∷ h) t ≡ (keeper h).steps + 1)
      new = grind arith

      high : (keeper h).steps ≤ now (Spawn a u ∷ h) t
      high = elim new [ inl p ↦ omega arith | inr p ↦ omega arith ]
  touched h (End a) s t x c l q = grind arith
  touched h e s t x c l q = grind (arith, nat_tests, upto_new, open_new, old_new, now_lt, now_close)

  -- what steps tell of places, proved by induction along the past
  record Tells (h : Past C) : Type 0 where
    through : (t i : ℕ) → Known k h t → i < length h → Upto h (place_step h i) (now h t) → ThroughTask h i t
    ordered : (i j : ℕ) → i < length h → j < length h → StepBefore h (place_step h i) (place_step h j) → T (before h i j)

  pub through_lead : (h : Past C) (e : Event C) (i : ℕ) → ThroughTask h i (actor e) → Lead h e i
  through_lead h e i v = grind arith

  -- up to the step of an end is at or before the end
  to_end : (h : Past C) → Sound k h → Tells h → (i j w : ℕ) → i < length h → at h j ≡ Some (End w)
      → Upto h (place_step h i) (place_step h j) → T (eqb i j || before h i j)
  to_end h s b i j w l q u =
      let lj = at_lt h j (End w) q in
      elim (upto_case h (place_step h i) (place_step h j) u) [
        | inl p ↦ (
            let d = at_some h i l in
            let same : actor d.0 ≡ w =
            sym (owner_place k lim h s i d.0 d.1) ∙ (ap (owner h) p ∙ owner_place k lim h s j (End w) q) in
            let le = end_last k h s j i w d.0 q d.1 same in
            elim (cases_eq i j) [
              | inl z ↦ or_l (eqb i j) (before h i j) (yes_eqb z)
              | inr n ↦ or_r (eqb i j) (before h i j) (same_step h s i j (omega arith) lj p)
            ])
        | inr p ↦ or_r (eqb i j) (before h i j) (b.ordered i j l lj p)
      ]

  -- what has its step up to the next event's leads to it
  upto_lead : (h : Past C) (e : Event C) → Sound k (e ∷ h) → Tells h → (i : ℕ) → i < length h
      → Upto (e ∷ h) (place_step h i) (event_step h e) → Lead h e i
  upto_lead h (Close a) s b i l u =
      let x = place_step h i in
      let f = finish_number h (innermost h a) in
      let held = old_new h (Close a) x (keeper h).steps (place_step_lt k lim h i l) (omega arith) u in
      elim (or_yes (is_upto k lim h x (now h a)) (waits k lim h f x)
      (subst T (close_new k lim h s.1 a s.0.is_known s.0.runs x) held)) [
        | inl p ↦ through_lead h (Close a) i (b.through a i s.0.is_known l p)
        | inr p ↦ (
            let r = any_below_of (λ y. (keeper h).last f y && is_upto k lim h x y) (keeper h).steps p in
            let la = last_step_of k lim h s.1 f r.0 ((and_yes ((keeper h).last f r.0) (is_upto k lim h x r.0) r.2).0) in
            let up : Upto h x (place_step h la.0) =
            subst (λ y. Upto h x y) (sym la.4) ((and_yes ((keeper h).last f r.0) (is_upto k lim h x r.0) r.2).1) in
            let w = la.1 in
            let at_home = finish_number_inj k lim h (home h w) (innermost h a) (home_has h w) (inner_has h a) la.3 in (
              la.0,
              End w,
              la.2,
              or_r (eqb w a) (awaited h (End w) (Close a)) (yes_and (eqb w w) (same_finish (home h w) (innermost h a)) (eqb_refl w)
                  (subst (λ g. T (same_finish (home h w) g)) at_home (same_finish_refl (home h w)))),
              to_end h s.1 b i la.0 w l la.2 up,
            ))
      ]
  upto_lead h (Spawn a u') s b i l u =
      through_lead h (Spawn a u') i (b.through a i s.0.is_known l
      (subst T (upto_kept k lim h (Spawn a u') (place_step h i) (now h a) (now_lt k lim h a)) u))
  upto_lead h (Open a) s b i l u =
      through_lead h (Open a) i (b.through a i s.0.is_known l
      (subst T (upto_kept k lim h (Open a) (place_step h i) (now h a) (now_lt k lim h a)) u))
  upto_lead h e s b i l u = grind arith

  through_next : (h : Past C) (e : Event C) → Sound k (e ∷ h) → Tells h
      → (t i : ℕ) → Known k (e ∷ h) t → i < suc (length h) → Upto (e ∷ h) (place_step (e ∷ h) i) (now (e ∷ h) t) → ThroughTask (e ∷ h) i t
  through_next h e s b t i q l u = elim (tried (eqb (actor e) t || makes t e)) [
    | inl c ↦ elim (cases_eq i (length h)) [
      | inl p ↦ (length h, e, at_top h e, c, or_l (eqb i (length h)) (before (e ∷ h) i (length h)) (yes_eqb p))
      | inr n ↦ (
          let li : i < length h = omega arith in
          let up = subst (λ x. Upto (e ∷ h) x (now (e ∷ h) t)) (place_step_old k lim h e i li) u in
          let leading = upto_lead h e s b i li (touched h e s t (place_step h i) (mine c) (place_step_lt k lim h i li) up) in (
            length h,
            e,
            at_top h e,
            c,
            or_r (eqb i (length h)) (before (e ∷ h) i (length h)) (lead_before h e i leading),
          ))
    ]
    | inr c ↦ (
        let na : t ≡ actor e → ⊥ = λ p. c (or_l (eqb (actor e) t) (makes t e) (yes_eqb (sym p))) in
        let nm : T (makes t e) → ⊥ = λ p. c (or_r (eqb (actor e) t) (makes t e) p) in
        let known_t : Known k h t = elim (known_new k h e t q) [ inl m ↦ absurd (nm m) | inr r ↦ r ] in
        let still = now_other k lim h e t na nm in
        elim (cases_eq i (length h)) [
          | inl p ↦ absurd (
              let up = subst₂ (Upto (e ∷ h)) (cond_eq i (length h) _ _ p) still u in
              elim (upto_case (e ∷ h) (event_step h e) (now h t) up) [
                | inl z ↦ event_other h e s t known_t na z
                | inr z ↦ event_last h e s (now h t) (subst T (before_kept k lim h e (event_step h e) (now h t) (now_lt k lim h t)) z)
              ])
          | inr n ↦ (
              let li : i < length h = omega arith in
              let up = subst₂ (Upto (e ∷ h)) (place_step_old k lim h e i li) still u in
              let v = b.through t i known_t li (subst T (upto_kept k lim h e (place_step h i) (now h t) (now_lt k lim h t)) up) in
              let lv = at_lt h v.0 v.1 v.2 in (
                v.0,
                v.1,
                at_old h e v.0 lv ∙ v.2,
                v.3,
                subst T (ap (λ z. eqb i v.0 || z) (sym (before_old h e i v.0 lv))) v.4,
              ))
        ])
  ]
    where
      mine : T (eqb (actor e) t || makes t e) → (t ≡ actor e) ⊎ T (makes t e)
      mine c = grind (arith, nat_tests)

  ordered_next : (h : Past C) (e : Event C) → Sound k (e ∷ h) → Tells h → (i j : ℕ) → i < suc (length h) → j < suc (length h)
      → StepBefore (e ∷ h) (place_step (e ∷ h) i) (place_step (e ∷ h) j) → T (before (e ∷ h) i j)
  ordered_next h e s b i j li lj q = elim (cases_eq j (length h)) [
    | inl pj ↦ elim (cases_eq i (length h)) [
      | inl pi ↦ absurd (before_irrefl (e ∷ h) s (place_step (e ∷ h) j)
          (subst (λ x. StepBefore (e ∷ h) (place_step (e ∷ h) x) (place_step (e ∷ h) j)) (pi ∙ sym pj) q))
      | inr ni ↦ grind (arith, nat_tests, upto_lead, upto_before, place_step, event_step, lead_before)
    ]
    | inr nj ↦ grind (arith, nat_tests, before_kept, place_step_lt, place_step_old, event_last, before_old)
  ]

  told : (h : Past C) → Sound k h → Tells h
  told [] s = record { through = λ t i q l u. absurd (omega arith); ordered = λ i j l m q. absurd (omega arith) }
  told (e ∷ h) s = let b = told h s.1 in record { through = through_next h e s b; ordered = ordered_next h e s b }

  -- the order of steps goes by happens before
  pub steps_before : (h : Past C) → Sound k h → (i j : ℕ) → i < length h → j < length h
      → StepBefore h (place_step h i) (place_step h j) → T (before h i j)
  steps_before h s i j l m q = (told h s).ordered i j l m q

  -- what is up to a known task's step is at or before an event of the task, or that made it
  pub now_through : (h : Past C) → Sound k h → (t i : ℕ) → Known k h t → i < length h → Upto h (place_step h i) (now h t)
      → ThroughTask h i t
  now_through h s t i q l u = (told h s).through t i q l u

  -- of two places the first is before the second if its step is up to the second's
  pub upto_places : (h : Past C) → Sound k h → (i j : ℕ) → i < j → j < length h → Upto h (place_step h i) (place_step h j)
      → T (before h i j)
  upto_places h s i j l m u = grind (arith, nat_tests, same_step, steps_before)
