-- The marks of a cell, its last write and its first and last unordered reads, suffice to see every race.
use Rattle.std.proofs.Math.Facts.{or_yes}
use Rattle.std.proofs.lemmas.Bool.Decides.{nat_tests}
use Rattle.std.proofs.Common.{◌≡◌, ℕ, suc, ◌+◌, ◌<◌, ◌≤◌, Bool, true, false, cond, not, ◌||◌, T, eqb, ◌⊎◌, [], ◌∷◌, length, Some, None, Option, sym, refl, subst, inl, inr, arith, eqb→eq}
use lib.Dec.{eqb_refl, not_T}
use Rattle.std.proofs.lemmas.Bool.{cases_eq}
use Rattle.model.specs.declared.Event.{Event}
use Rattle.model.specs.declared.Event.TheVariants.{Spawn, Read, Write}
use Rattle.model.specs.declared.RaceKind.{RaceKind}
use Rattle.model.specs.declared.RaceKind.TheVariants.{WriteRead, WriteWrite, ReadWrite}
use Rattle.model.specs.declared.Race.{Race}
use Rattle.model.specs.Lists.{any, mem}
use Rattle.model.specs.Past.{Past, at, actor, makes}
use Rattle.model.specs.Before.{leads, before}
use Rattle.model.specs.Accesses.{CellKind, reads, writes, accesses, conflicts}
use Rattle.model.specs.Cells.{last_write, reads_since, unordered_reads, left_read}
use Rattle.model.specs.Accesses.{is_access}
use Rattle.model.specs.Cells.{right_read}
use Rattle.model.specs.Rules.{Limits, race_with, race_of}
use Rattle.model.specs.Laws.{Clean}
use Rattle.model.specs.Orders.{Order}
use Rattle.model.specs.Reached.{Reached, OrderLaws}
use Rattle.model.proofs.Shelf.Tests.{or_l, or_r, tried, cond_yes, cond_no}
use Rattle.model.proofs.Shelf.Lists.{any_of, any_in, mem_tail, keep_in, keep_of}
use Rattle.model.proofs.Shelf.Places.{at_top, at_old, at_lt, at_case, at_grow}
use Rattle.model.proofs.Shelf.Befores.{before_old, before_lt, before_lead, lead_before, before_trans}
use Rattle.model.proofs.Linking.Sound.{Known, Sound, actor_known, child_known, clean_sound}
use Rattle.model.proofs.Linking.Steps
use Rattle.model.proofs.Linking.Steps.{upto_case, upto_before, upto_trans, past_now, before_upto, steps_before, through_lead, now_through}
use Rattle.model.proofs.Linking.Words.{at_keeper}
use Rattle.model.proofs.Linking.Subtree.{earlier_upto}
use Rattle.model.proofs.Linking.Serial
use Rattle.model.proofs.Linking.Edges.{is_unordered, left_edge, right_edge}
use Rattle.model.proofs.Orderings.Races.{reads_since_of, unordered_of, taken_race}
use Rattle.model.proofs.Orderings.Settles.{access_write, Ordered}

module _ {C : Type 0} (k : CellKind C) where
  -- what writes or reads a cell is an access
  pub writes_access : (c : C) (d : Event C) → T (writes k c d) → T (is_access d)
  writes_access c d q = grind arith

  pub reads_access : (c : C) (d : Event C) → T (reads k c d) → T (is_access d)
  reads_access c d q = grind arith

  -- the last write
  write_last : (h : Past C) (c : C) (i : ℕ) (d : Event C) → at h i ≡ Some d → T (writes k c d)
      → (w : ℕ) × (e : Event C) × (last_write k h c ≡ Some w) × (at h w ≡ Some e) × T (writes k c e) × (i ≤ w)
  write_last [] c i d q t = cc
  write_last (e ∷ h) c i d q t = elim (tried (writes k c e)) [
    | inl w ↦ (length h, e, cond_yes (writes k c e) _ _ w, at_top h e, w, (let l = at_lt (e ∷ h) i d q in omega arith))
    | inr n ↦ grind (arith, nat_tests, write_last h, at_case, at_grow)
  ]

  -- a read is since the last write, or a write came after it
  read_since : (h : Past C) (c : C) (i : ℕ) (d : Event C) → at h i ≡ Some d → T (reads k c d)
      → T (mem i (reads_since k h c)) ⊎ ((w : ℕ) × (e : Event C) × (at h w ≡ Some e) × T (writes k c e) × (i < w))
  read_since [] c i d q t = cc
  read_since (e ∷ h) c i d q t = elim (at_case h e i d q) [
    | inl r ↦ grind arith
    | inr r ↦ elim (tried (writes k c e)) [
      | inl w ↦ inr (length h, e, at_top h e, w, r.0)
      | inr n ↦ elim (read_since h c i d r.1 t) [
        | inl m ↦ inl (subst (λ l. T (mem i l)) (sym (cond_no (writes k c e) _ _ n)) (elim (tried (reads k c e)) [
          | inl y ↦ subst (λ l. T (mem i l)) (sym (cond_yes (reads k c e) _ _ y)) (mem_tail i (length h) (reads_since k h c) m)
          | inr z ↦ subst (λ l. T (mem i l)) (sym (cond_no (reads k c e) _ _ z)) m
        ]))
        | inr f ↦ inr (f.0, f.1, at_grow h e f.0 f.1 f.2, f.3, f.4)
      ]
    ]
  ]

  -- whether a read is before none of the reads since the last write
  abbrev pub is_latest : Past C → C → ℕ → Bool
  is_latest h c i = not (any (before h i) (reads_since k h c))

  pub unordered_before : (h : Past C) (c : C) (i j : ℕ) → T (mem i (unordered_reads k h c)) → T (mem j (reads_since k h c))
      → T (before h i j) → ⊥
  unordered_before h c i j m n b =
      let latest = (keep_of (is_latest h c) (reads_since k h c) i m).1 in
      grind (arith, nat_tests, latest, any_in)

  pub unordered_since : (h : Past C) (c : C) (i : ℕ) → T (mem i (unordered_reads k h c)) → T (mem i (reads_since k h c))
  unordered_since h c i m = (keep_of (is_latest h c) (reads_since k h c) i m).0

  -- every read since the last write is, or is before, an unordered one
  climb : (h : Past C) (c : C) (n i : ℕ) → length h ≤ i + n → T (mem i (reads_since k h c))
      → (j : ℕ) × T (mem j (unordered_reads k h c)) × T (eqb i j || before h i j)
  climb h c ℕ.zero i l m = let f = reads_since_of k h c i m in let b = at_lt h i f.0 f.1 in absurd (omega arith)
  climb h c (suc n) i l m = elim (tried (any (before h i) (reads_since k h c))) [
    | inl a ↦ (
        let r = any_of (before h i) (reads_since k h c) a in
        let b = before_lt h i r.0 r.2 in
        let f = climb h c n r.0 (omega arith) r.1 in (
          f.0,
          f.1,
          or_r (eqb i f.0) (before h i f.0) (elim (or_yes (eqb r.0 f.0) (before h r.0 f.0) f.2) [
            | inl p ↦ subst (λ x. T (before h i x)) (eqb→eq r.0 f.0 p) r.2
            | inr p ↦ before_trans h i r.0 f.0 r.2 p
          ]),
        ))
    | inr a ↦ (
      i,
      keep_in (is_latest h c) (reads_since k h c) i m (not_T (any (before h i) (reads_since k h c)) a),
      or_l (eqb i i) (before h i i) (eqb_refl i),
    )
  ]

  -- no race with a mark
  race_cond : (b : Bool) (r other : Option (Race C)) (x : Race C) → r ≡ Some x → cond b other r ≡ None → T b × (other ≡ None)
  race_cond true r other x q p = (tt, p)
  race_cond false r other x q p = cc

  race_none : (kind : RaceKind) (h : Past C) (e : Event C) (c : C) (o : Option ℕ) (other : Option (Race C))
      → race_with kind h e c o other ≡ None
      → ((i : ℕ) → o ≡ Some i → T (before (e ∷ h) i (length h))) × (other ≡ None)
  race_none kind h e c None other p = ((λ i q. cc), p)
  race_none kind h e c (Some j) other p =
      let found : Race C = record { kind = kind; cell = c; first = j; second = length h } in
      let r = race_cond (before (e ∷ h) j (length h)) (Some found) other found refl p in
      grind arith

  -- an access of c at or ahead of an ordered write of c
  by_write : (h : Past C) (e : Event C) → Ordered k h → (c : C) (i w : ℕ) (d x : Event C) → at h i ≡ Some d → at h w ≡ Some x
      → T (accesses k c d) → T (writes k c x) → i ≤ w
      → T (before (e ∷ h) w (length h)) → T (before (e ∷ h) i (length h))
  by_write h e o c i w d x p q a wr l b = elim (cases_eq i w) [
    | inl z ↦ subst (λ y. T (before (e ∷ h) y (length h))) (sym z) b
    | inr n ↦ (
        let after_mark = o i w d x (omega arith) p q (access_write k c d x a wr) in
        before_trans (e ∷ h) i w (length h) (subst T (sym (before_old h e i w (at_lt h w x q))) after_mark) b)
  ]

module _ {C : Type 0} (k : CellKind C) (lim : ℕ) (laws : (limit : ℕ) (m : Order) → Reached limit m → OrderLaws m) where
  open at_keeper k lim use {keeper, now, event_step, place_step, done_on, StepBefore, Upto, StepEarlier}

  -- the laws of the order after a past
  abbrev law : (h : Past C) → Sound k h → OrderLaws (keeper h)
  law h s = Steps.law k lim laws h s

  -- serial order of places
  abbrev Serially : Past C → ℕ → ℕ → Type 0
  Serially h x y = Serial.Serially k lim laws h x y

  -- the step of a place with an access is the one that the access was done on
  place_done_on : (h : Past C) (i : ℕ) (d : Event C) → at h i ≡ Some d → T (is_access d) → place_step h i ≡ done_on h i
  place_done_on [] i d q a = cc
  place_done_on (e ∷ h) i d q a = grind (arith, nat_tests, place_done_on h)

  -- what stands between a place that is up to the step x, and is not before it, and x itself is up to x
  pub between_one : (h : Past C) → Sound k h → (x a b : ℕ) → (StepBefore h (done_on h a) (done_on h b) → ⊥)
      → (a ≡ b) ⊎ Serially h a b → Upto h (done_on h a) x → StepEarlier h (done_on h b) x → Upto h (done_on h b) x
  between_one h s x a b n (inl p) up e = subst (λ y. Upto h (done_on h y) x) p up
  between_one h s x a b n (inr (inr p)) up e = subst (λ y. Upto h y x) p.0 up
  between_one h s x a b n (inr (inl p)) up e = elim (upto_case k lim laws h (done_on h a) x up) [
    | inl z ↦ (
        let xb = subst (λ y. StepEarlier h y (done_on h b)) z p in
        absurd ((law h s).earlier_irrefl x ((law h s).earlier_trans x (done_on h b) x xb e)))
    | inr z ↦ upto_before k lim laws h (done_on h b) x ((law h s).between (done_on h a) (done_on h b) x p e n z)
  ]

  -- and so is what stands between two places that are up to x
  between_upto : (h : Past C) → Sound k h → (x a b z : ℕ) → (StepBefore h (done_on h a) (done_on h b) → ⊥)
      → (a ≡ b) ⊎ Serially h a b → (z ≡ b) ⊎ Serially h b z
      → Upto h (done_on h a) x → Upto h (done_on h z) x → Upto h (done_on h b) x
  between_upto h s x a b z n p (inl q) ua uz = subst (λ y. Upto h (done_on h y) x) q uz
  between_upto h s x a b z n p (inr (inr q)) ua uz = subst (λ y. Upto h y x) (sym q.0) uz
  between_upto h s x a b z n p (inr (inl q)) ua uz = grind (arith, nat_tests, between_one, earlier_upto k lim laws)

  -- an unordered read is before no other
  pub unordered_steps : (h : Past C) → Sound k h → (c : C) (i j : ℕ) → T (mem i (unordered_reads k h c))
      → T (mem j (unordered_reads k h c)) → StepBefore h (done_on h i) (done_on h j) → ⊥
  unordered_steps h s c i j mi mj b = grind (arith, nat_tests, unordered_of k, place_done_on, reads_access k, unordered_before k, unordered_since k, steps_before k lim laws, at_lt)

  -- what is before an access, by steps; the access need not be taken
  access_leads : (h : Past C) (d e : Event C) → T (is_access e) → T (leads h d e) → T (eqb (actor d) (actor e) || makes (actor e) d)
  access_leads h d (Spawn t u) a l = absurd a
  access_leads h d e a l = grind arith

  before_known : (h : Past C) (e : Event C) → Sound k h → T (is_access e) → (i : ℕ) → T (before (e ∷ h) i (length h))
      → Known k h (actor e)
  before_known h e s a i b = grind (arith, nat_tests, before_lead, access_leads, actor_known, child_known)

  pub access_upto : (h : Past C) (e : Event C) → Sound k h → T (is_access e) → (i : ℕ) (d : Event C) → at h i ≡ Some d → T (is_access d)
      → T (before (e ∷ h) i (length h)) → Upto h (done_on h i) (now h (actor e))
  access_upto h e s a i d q ad b =
      let r = before_lead h e i b in
      let n : Upto h (place_step h r.0) (now h (actor e)) =
      past_now k lim laws h s r.0 r.1 (actor e) r.2 (access_leads h r.1 e a r.3) in
      subst (λ x. Upto h x (now h (actor e))) (place_done_on h i d q ad) (elim (or_yes (eqb i r.0) (before h i r.0) r.4) [
        | inl p ↦ subst (λ x. Upto h (place_step h x) (now h (actor e))) (sym (eqb→eq i r.0 p)) n
        | inr p ↦ upto_trans k lim laws h s (place_step h i) (place_step h r.0) (now h (actor e))
            (before_upto k lim laws h s i r.0 p) n
      ])

  pub upto_access : (h : Past C) (e : Event C) → Sound k h → Known k h (actor e) → (i : ℕ) (d : Event C) → at h i ≡ Some d → T (is_access d)
      → Upto h (done_on h i) (now h (actor e)) → T (before (e ∷ h) i (length h))
  upto_access h e s kn i d q ad b = grind (arith, nat_tests, place_done_on, lead_before, through_lead k lim laws, now_through k lim laws, at_lt)

  -- the unordered reads are before a write if the first and the last are
  reads_before : (h : Past C) (t : ℕ) (c : C) → Sound k h
      → ((i : ℕ) → left_read k h c ≡ Some i → T (before (Write t c ∷ h) i (length h)))
      → ((i : ℕ) → right_read k h c ≡ Some i → T (before (Write t c ∷ h) i (length h)))
      → (i : ℕ) → T (is_unordered k h c i) → T (before (Write t c ∷ h) i (length h))
  reads_before h t c s fl fr i m = lefts (left_read k h c) refl
    where
      up : (j : ℕ) → T (is_unordered k h c j) → T (before (Write t c ∷ h) j (length h)) → Upto h (done_on h j) (now h t)
      up j n b = let d = unordered_of k h c j n in access_upto h (Write t c) s tt j d.0 d.1 (reads_access k c d.0 d.2) b

      rights : (a : ℕ) → left_read k h c ≡ Some a → (o : Option ℕ) → right_read k h c ≡ o → T (before (Write t c ∷ h) i (length h))
      rights a p None q = absurd ((right_edge k lim laws h s c).none_of q i m)
      rights a p (Some z) q =
          let d = unordered_of k h c i m in
          let fa = (left_edge k lim laws h s c).some_of a p in
          let fz = (right_edge k lim laws h s c).some_of z q in
          upto_access h (Write t c) s (before_known h (Write t c) s tt a (fl a p)) i d.0 d.1 (reads_access k c d.0 d.2)
          (between_upto h s (now h t) a i z (unordered_steps h s c a i fa.0 m) (fa.1 i m) (fz.1 i m)
          (up a fa.0 (fl a p)) (up z fz.0 (fr z q)))

      lefts : (o : Option ℕ) → left_read k h c ≡ o → T (before (Write t c ∷ h) i (length h))
      lefts None p = absurd ((left_edge k lim laws h s c).none_of p i m)
      lefts (Some a) p = rights a p (right_read k h c) refl

  -- an access that makes no race with a mark is after every access that it conflicts with
  marks_suffice : (h : Past C) (e : Event C) → Sound k h → Ordered k h → race_of k h e ≡ None
      → (i : ℕ) (d : Event C) → at h i ≡ Some d → T (conflicts k d e) → T (before (e ∷ h) i (length h))
  marks_suffice h (Read t c) s o r i d q cf =
      let f = write_last k h c i d q cf in
      let n = race_none k WriteRead h (Read t c) c (last_write k h c) None r in
      by_write k h (Read t c) o c i f.0 d f.1 q f.3 (or_r (reads k c d) (writes k c d) cf) f.4 f.5 (n.0 f.0 f.2)
  marks_suffice h (Write t c) s o r i d q cf =
      let n = race_none k WriteWrite h (Write t c) c (last_write k h c) _ r in
      let n₁ = race_none k ReadWrite h (Write t c) c (left_read k h c) _ n.1 in
      let n₂ = race_none k ReadWrite h (Write t c) c (right_read k h c) None n₁.1 in
      elim (or_yes (reads k c d) (writes k c d) cf) [
        | inr w ↦ (
            let f = write_last k h c i d q w in
            by_write k h (Write t c) o c i f.0 d f.1 q f.3 cf f.4 f.5 (n.0 f.0 f.2))
        | inl rd ↦ elim (read_since k h c i d q rd) [
          | inr v ↦ (
              let f = write_last k h c v.0 v.1 v.2 v.3 in
              let l : i ≤ f.0 = (let a = v.4 in let b = f.5 in omega arith) in
              by_write k h (Write t c) o c i f.0 d f.1 q f.3 cf f.4 l (n.0 f.0 f.2))
          | inl m ↦ (
              let j = climb k h c (length h) i (omega arith) m in
              let b = reads_before h t c s n₁.0 n₂.0 j.0 j.1 in
              elim (or_yes (eqb i j.0) (before h i j.0) j.2) [
                | inl p ↦ subst (λ x. T (before (Write t c ∷ h) x (length h))) (sym (eqb→eq i j.0 p)) b
                | inr p ↦ before_trans (Write t c ∷ h) i j.0 (length h)
                    (subst T (sym (before_old h (Write t c) i j.0 (before_lt h i j.0 p).1)) p) b
              ])
        ]
      ]
  marks_suffice h e s o r i d q cf = absurd cf

  -- so a clean past has every conflicting pair in order
  pub clean_ordered : (l : Limits) (h : Past C) → Clean k l h → Ordered k h
  clean_ordered l [] c i j d e lt p q cf = cc
  clean_ordered l (x ∷ h) c i j d e lt p q cf =
      let free = taken_race k l h x None c.0 in
      grind (arith, nat_tests, clean_ordered l h, clean_sound, at_case, marks_suffice, at_old, before_old)
