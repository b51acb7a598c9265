-- The serial list of a past goes by the serial order of its steps, and by place on one step.
use Rattle.std.proofs.lemmas.Bool.Decides.{nat_tests}
use Rattle.std.proofs.Common.{◌≡◌, ℕ, suc, ◌+◌, ◌<◌, ◌≤◌, Bool, true, false, cond, T, eqb, ◌⊎◌, List, [], ◌∷◌, length, Some, sym, ap, ◌∙◌, subst, inl, inr, arith}
use Rattle.std.proofs.lemmas.Bool.{cases_eq}
use Rattle.model.specs.declared.Event.{Event}
use Rattle.model.specs.declared.Event.TheVariants.{Spawn}
use Rattle.model.specs.Lists.{mem, some_or}
use Rattle.model.specs.Past.{Past, at, actor, child, makes}
use Rattle.model.specs.Before.{of_task, written, serial}
use Rattle.model.specs.Accesses.{CellKind}
use Rattle.model.specs.Orders.{Order}
use Rattle.model.specs.Reached.{Reached, OrderLaws}
use Rattle.model.specs.Link.{stands, count}
use Rattle.model.proofs.Shelf.Lists.{mem_head, ++_of, ++_l, ++_r, flat_of, flat_in}
use Rattle.model.proofs.Shelf.Places.{at_top, at_lt, at_some, at_case, at_grow}
use Rattle.model.proofs.Linking.Sound.{Known, Sound, known_new, actor_known}
use Rattle.model.proofs.Linking.Steps
use Rattle.model.proofs.Linking.Steps.{upto_case}
use Rattle.model.proofs.Linking.Words.{at_keeper}
use Rattle.model.proofs.Linking.Subtree.{subtree, subtree_refl, subtree_trans, subtree_child, within_at, done_on_task, goes_on_task}
use Rattle.model.proofs.Linking.Subtree.{earlier_upto}
use Rattle.model.proofs.Linking.Sorted.{Sorted, sorted-++, sorted_flat, sorted_map, sorted_once, stands_rel, rel_stands}

-- a list of one place, or of none
one_sorted : (b : Bool) (x : ℕ) → Sorted ◌<◌ (cond b (x ∷ []) [])
one_sorted true x = ((λ y m. absurd m), tt)
one_sorted false x = tt

one_mem : (b : Bool) (x y : ℕ) → T (mem y (cond b (x ∷ []) [])) → y ≡ x
one_mem true x y m = grind arith
one_mem false x y m = absurd m

module _ {C : Type 0} where
  -- the places of a task's events
  task_mem : (h : Past C) (t x : ℕ) → T (mem x (of_task t h)) → (d : Event C) × (at h x ≡ Some d) × (actor d ≡ t)
  task_mem [] t x m = absurd m
  task_mem (e ∷ h) t x m = elim (++_of x (of_task t h) (cond (eqb t (actor e)) (length h ∷ []) []) m) [
    | inl a ↦ (let r = task_mem h t x a in (r.0, at_grow h e x r.0 r.1, r.2))
    | inr b ↦ grind arith
  ]

  mem_task : (h : Past C) (x : ℕ) (d : Event C) → at h x ≡ Some d → T (mem x (of_task (actor d) h))
  mem_task [] x d q = cc
  mem_task (e ∷ h) x d q = grind (arith, nat_tests, mem_task h, at_case, ++_r, ++_l)

  task_sorted : (h : Past C) (t : ℕ) → Sorted ◌<◌ (of_task t h)
  task_sorted [] t = tt
  task_sorted (e ∷ h) t =
      let mine = eqb t (actor e) in
      sorted-++ ◌<◌ (of_task t h) (cond mine (length h ∷ []) []) (task_sorted h t) (one_sorted mine (length h)) (λ x y m n.
      let r = task_mem h t x m in
      let l = at_lt h x r.0 r.1 in
      let p = one_mem mine (length h) y n in
      omega arith)

  -- what is written right after a place: all of the task that a spawn makes
  abbrev pub after : ℕ → Past C → ℕ → List ℕ
  after n h i = some_or (λ e. some_or (written n h) [] (child e)) [] (at h i)

  -- a place and what is written right after it
  abbrev pub span : ℕ → Past C → ℕ → List ℕ
  span n h i = i ∷ after n h i

  after_mem : (n : ℕ) (h : Past C) (y x : ℕ) (d : Event C) → at h y ≡ Some d → T (mem x (after n h y))
      → (u : ℕ) × (d ≡ Spawn (actor d) u) × T (mem x (written n h u))
  after_mem n h y x d q r = grind arith

  span_mem : (n : ℕ) (h : Past C) (y x : ℕ) (d : Event C) → at h y ≡ Some d → T (mem x (span n h y))
      → (x ≡ y) ⊎ ((u : ℕ) × (d ≡ Spawn (actor d) u) × T (mem x (written n h u)))
  span_mem n h y x d q m = grind arith

  mem_span : (n : ℕ) (h : Past C) (y x a u : ℕ) → at h y ≡ Some (Spawn a u) → T (mem x (written n h u)) → T (mem x (span n h y))
  mem_span n h y x a u q m = grind arith

  -- more depth writes no less
  written_more : (n : ℕ) (h : Past C) (t x : ℕ) → T (mem x (written n h t)) → T (mem x (written (suc n) h t))
  written_more ℕ.zero h t x m = absurd m
  written_more (suc n) h t x m = grind (arith, nat_tests, written_more n, flat_of, task_mem, flat_in, span_mem, mem_span)

  written_plus : (j n : ℕ) (h : Past C) (t x : ℕ) → T (mem x (written n h t)) → T (mem x (written (j + n) h t))
  written_plus ℕ.zero n h t x m = subst (λ y. T (mem x (written y h t))) (let e : n ≡ 0 + n = omega arith in e) m
  written_plus (suc j) n h t x m =
      subst (λ y. T (mem x (written y h t))) (let e : suc (j + n) ≡ suc j + n = omega arith in e)
      (written_more (j + n) h t x (written_plus j n h t x m))

module _ {C : Type 0} (k : CellKind C) where
  -- what is written of a task is of tasks below it
  written_subtree : (n : ℕ) (h : Past C) → Sound k h → (t x : ℕ) → T (mem x (written n h t))
      → (d : Event C) × (at h x ≡ Some d) × T (subtree h t (actor d))
  written_subtree ℕ.zero h s t x m = absurd m
  written_subtree (suc n) h s t x m =
      let r = flat_of (span n h) x (of_task t h) m in
      let d = task_mem h t r.0 r.1 in
      elim (span_mem n h r.0 x d.0 d.1 r.2) [
        | inl p ↦ grind (arith, nat_tests, subtree_refl)
        | inr w ↦ (let f = written_subtree n h s w.0 x w.2 in (
          f.0,
          f.1,
          subtree_trans k h s t w.0 (actor f.0) (actor_known k h s x f.0 f.1)
              (subst (λ y. T (subtree h y w.0)) d.2 (subtree_child k h s r.0 (actor d.0) w.0 (d.1 ∙ ap Some w.1)))
              f.2,
        ))
      ]

  -- every task's events are written
  reach_first : (whole : Past C) (h : Past C) → Sound k h → ((i : ℕ) (d : Event C) → at h i ≡ Some d → at whole i ≡ Some d)
      → (w : ℕ) → Known k h w
      → (q : ℕ) × (q ≤ length h) × ((n x : ℕ) → T (mem x (written n whole w)) → T (mem x (written (q + n) whole 0)))
  reach_first whole [] s ext w kw = grind arith
  reach_first whole (e ∷ h) s ext w kw = elim (known_new k h e w kw) [
    | inl m ↦ (
        let r = reach_first whole h s.1 (λ i d p. ext i d (at_grow h e i d p)) (actor e) s.0.is_known in
        let sp = is_spawn e w m in (
          suc r.0,
          (let l = r.1 in omega arith),
          λ n x b.
              subst (λ y. T (mem x (written y whole 0))) (let z : r.0 + suc n ≡ suc r.0 + n = omega arith in z)
              (r.2 (suc n) x (flat_in (span n whole) x (length h) (of_task (actor e) whole)
              (mem_task whole (length h) e (ext (length h) e (at_top h e)))
              (mem_span n whole (length h) x (actor e) w (ext (length h) e (at_top h e) ∙ ap Some sp) b))),
        ))
    | inr q ↦ (
        let r = reach_first whole h s.1 (λ i d p. ext i d (at_grow h e i d p)) w q in
        (r.0, (let l = r.1 in omega arith), r.2))
  ]
    where
      is_spawn : (e : Event C) (w : ℕ) → T (makes w e) → e ≡ Spawn (actor e) w
      is_spawn (Spawn a u) w m = grind arith
      is_spawn e w m = grind arith

  -- depth enough for all is as many as there are events
  fill : (h : Past C) (q x : ℕ) → q ≤ length h → T (mem x (written (q + 1) h 0)) → T (mem x (serial h))
  fill h q x l m = subst (λ y. T (mem x (written y h 0))) (room (length h) q l).1 (written_plus (room (length h) q l).0 (q + 1) h 0 x m)
    where
      room : (n q : ℕ) → q ≤ n → (j : ℕ) × (j + (q + 1) ≡ suc n)
      room ℕ.zero q l = (0, omega arith)
      room (suc n) q l = elim (cases_eq q (suc n)) [
        | inl p ↦ (0, omega arith)
        | inr d ↦ (let r = room n q (omega arith) in (suc r.0, (let z = r.1 in omega arith)))
      ]

  pub serial_has : (h : Past C) → Sound k h → (x : ℕ) → x < length h → T (mem x (serial h))
  serial_has h s x l =
      let d = at_some h x l in
      let r = reach_first h h s (λ i d p. p) (actor d.0) (actor_known k h s x d.0 d.1) in
      let here = flat_in (span 0 h) x x (of_task (actor d.0) h) (mem_task h x d.0 d.1) (mem_head x (after 0 h x)) in
      fill h r.0 x r.1 (r.2 1 x here)

  pub serial_places : (h : Past C) → Sound k h → (x : ℕ) → T (mem x (serial h)) → x < length h
  serial_places h s x m = let r = written_subtree (suc (length h)) h s 0 x m in at_lt h x r.0 r.1

module _ {C : Type 0} (k : CellKind C) (lim : ℕ) (laws : (limit : ℕ) (m : Order) → Reached limit m → OrderLaws m) where
  open at_keeper k lim use {keeper, done_on, goes_on, Upto, StepEarlier}

  -- the laws of the order after a past
  abbrev law : (h : Past C) → Sound k h → OrderLaws (keeper h)
  law h s = Steps.law k lim laws h s

  -- serial order of places: by their steps, and by place on one step
  abbrev pub Serially : Past C → ℕ → ℕ → Type 0
  Serially h x y = StepEarlier h (done_on h x) (done_on h y) ⊎ ((done_on h x ≡ done_on h y) × (x < y))

  -- it is a strict order
  pub serially_irr : (h : Past C) → Sound k h → (x : ℕ) → Serially h x x → ⊥
  serially_irr h s x (inl p) = (law h s).earlier_irrefl (done_on h x) p
  serially_irr h s x (inr p) = let l = p.1 in omega arith

  pub serially_trans : (h : Past C) → Sound k h → (x y z : ℕ) → Serially h x y → Serially h y z → Serially h x z
  serially_trans h s x y z (inl p) (inl q) = inl ((law h s).earlier_trans (done_on h x) (done_on h y) (done_on h z) p q)
  serially_trans h s x y z (inl p) (inr q) = inl (subst (λ w. StepEarlier h (done_on h x) w) q.0 p)
  serially_trans h s x y z (inr p) (inl q) = inl (subst (λ w. StepEarlier h w (done_on h z)) (sym p.0) q)
  serially_trans h s x y z (inr p) (inr q) = inr (p.0 ∙ q.0, (let a = p.1 in let b = q.1 in omega arith))

  -- a later place with its step further on is later in serial order
  upto_serially : (h : Past C) → Sound k h → (x y : ℕ) → x < y → Upto h (done_on h x) (done_on h y) → Serially h x y
  upto_serially h s x y l u = grind (arith, nat_tests, law)

  -- the spans of two events of one task stand one after the other
  span_order : (n : ℕ) (h : Past C) → Sound k h → (t y z : ℕ) → T (mem y (of_task t h)) → T (mem z (of_task t h)) → y < z
      → (a b : ℕ) → T (mem a (span n h y)) → T (mem b (span n h z)) → Serially h a b
  span_order n h s t y z my mz l a b ma mb =
      let dy = task_mem h t y my in
      let dz = task_mem h t z mz in
      let yz : Serially h y z =
      upto_serially h s y z l (done_on_task k lim laws h s y z dy.0 dz.0 l dy.1 dz.1 (dy.2 ∙ sym dz.2)) in
      let az : Serially h a z = elim (span_mem n h y a dy.0 dy.1 ma) [
        | inl p ↦ subst (λ w. Serially h w z) (sym p) yz
        | inr w ↦ (
            let f = written_subtree k n h s w.0 a w.2 in
            let sp = dy.1 ∙ ap Some w.1 in
            let i = within_at k lim laws h s y (actor dy.0) w.0 a f.0 sp f.1 f.2 in
            inl (earlier_upto k lim laws h s (done_on h a) (goes_on h y) (done_on h z) i.1
            (goes_on_task k lim laws h s y (actor dy.0) w.0 z dz.0 l sp dz.1 (dz.2 ∙ sym dy.2))))
      ] in
      grind (arith, nat_tests, span_mem, written_subtree k, within_at k lim laws, serially_trans)

  -- so all that is written of a task stands in serial order
  after_sorted : (n : ℕ) (h : Past C) → ((u : ℕ) → Sorted (Serially h) (written n h u)) → (y : ℕ) (d : Event C) → at h y ≡ Some d
      → Sorted (Serially h) (after n h y)
  after_sorted n h ih y d q = grind arith

  written_sorted : (n : ℕ) (h : Past C) → Sound k h → (t : ℕ) → Sorted (Serially h) (written n h t)
  written_sorted ℕ.zero h s t = tt
  written_sorted (suc n) h s t =
      sorted_flat (Serially h) (span n h) (of_task t h)
      (sorted_map ◌<◌ (λ y z. (a b : ℕ) → T (mem a (span n h y)) → T (mem b (span n h z)) → Serially h a b) (of_task t h)
      (λ y z my mz l. span_order n h s t y z my mz l) (task_sorted h t))
      (λ y my. let dy = task_mem h t y my in (
        (λ b mb. let w = after_mem n h y b dy.0 dy.1 mb in
            let f = written_subtree k n h s w.0 b w.2 in
            inl (within_at k lim laws h s y (actor dy.0) w.0 b f.0 (dy.1 ∙ ap Some w.1) f.1 f.2).0),
        after_sorted n h (λ u. written_sorted n h s u) y dy.0 dy.1,
      ))

  -- the serial list has every place once, in the serial order of steps, and by place on one step
  pub serial_sorted : (h : Past C) → Sound k h → Sorted (Serially h) (serial h)
  serial_sorted h s = written_sorted (suc (length h)) h s 0

  pub serial_once : (h : Past C) → Sound k h → (x : ℕ) → x < length h → count x (serial h) ≡ 1
  serial_once h s x l = grind (arith, nat_tests, sorted_once, serially_irr, serially_trans, serial_sorted, serial_has)

  pub stands_serially : (h : Past C) → Sound k h → (x y : ℕ) → T (stands (serial h) x y) → Serially h x y
  stands_serially h s x y q = stands_rel (Serially h) (serially_irr h s) (serially_trans h s) x y (serial h) (serial_sorted h s) q

  pub serially_stands : (h : Past C) → Sound k h → (x y : ℕ) → x < length h → y < length h → Serially h x y → T (stands (serial h) x y)
  serially_stands h s x y l m r = grind (arith, nat_tests, rel_stands, serially_irr, serially_trans, serial_sorted, serial_has)
