-- The places of a past's events in an arranged part of it.
use Rattle.std.proofs.lemmas.Bool.Decides.{nat_tests}
use Rattle.std.proofs.Common.{◌≡◌, ℕ, ◌<◌, Bool, cond, T, eqb, ◌⊎◌, List, [], ◌∷◌, length, Some, refl, ap, ◌∙◌, arith}
use Rattle.model.specs.declared.Event.{Event}
use Rattle.model.specs.Lists.{any, some_or, mem}
use Rattle.model.specs.Past.{Past, at, behind}
use Rattle.model.specs.Legal.{arranged, part_ahead}
use Rattle.model.proofs.Shelf.Places.{at_old, at_some, at_case, behind_old, at_new, behind_new, any_at, at_any}
use Rattle.model.proofs.Reorderings.Sublists.{Part}
use Rattle.model.proofs.Orderings.Rows.{ahead_mem_l}
use Rattle.model.proofs.Orderings.Follows.{mem_part, part_here, part_next}

-- the place that the event at i has in the arranged past
abbrev pub pos : List ℕ → ℕ → ℕ
pos [] i = 0
pos (x ∷ s) i = cond (eqb x i) (length s) (pos s i)

pub pos_here : (x : ℕ) (s : List ℕ) → pos (x ∷ s) x ≡ length s
pos_here x s = grind arith

pub pos_there : (x i : ℕ) (s : List ℕ) → (x ≡ i → ⊥) → pos (x ∷ s) i ≡ pos s i
pos_there x i s n = grind arith

pos_lt : (s : List ℕ) (i : ℕ) → T (mem i s) → pos s i < length s
pos_lt [] i q = absurd q
pos_lt (x ∷ s) i q = grind (arith, nat_tests, pos_lt s)

pub ahead_in : (s : List ℕ) (i j : ℕ) → T (mem j (part_ahead s i)) → T (mem j s)
ahead_in s i j q = ahead_mem_l s j i (mem_part s i j q)

module _ {C : Type 0} (h : Past C) where
  pub arranged_cons : (i : ℕ) (s : List ℕ) (e : Event C) → at h i ≡ Some e → arranged h (i ∷ s) ≡ (e ∷ arranged h s)
  arranged_cons i s e a = ap (some_or (λ d. d ∷ arranged h s) (arranged h s)) a

  pub length_arranged : (s : List ℕ) → Part h s → length (arranged h s) ≡ length s
  length_arranged [] P = refl
  length_arranged (x ∷ s) P =
      let r = at_some h x P.0 in grind (arith, nat_tests, length_arranged s)

  not_same : (x i : ℕ) (s : List ℕ) → Part h (x ∷ s) → T (mem i s) → x ≡ i → ⊥
  not_same x i s P q e = grind arith

  -- where a place of a longer part stands: at the top, or where it stood
  pos_case : (x : ℕ) (s : List ℕ) → Part h (x ∷ s) → (i : ℕ) → T (mem i (x ∷ s))
      → ((i ≡ x) × (pos (x ∷ s) i ≡ length (arranged h s)))
      ⊎ (T (mem i s) × (pos (x ∷ s) i ≡ pos s i) × (pos s i < length (arranged h s)) × (part_ahead (x ∷ s) i ≡ part_ahead s i))
  pos_case x s P i q = grind (arith, nat_tests, length_arranged, pos_here, not_same, pos_lt, pos_there, part_next)

  -- the event at i stands at its place of the arranged past, and behind it is what stands ahead of i
  pub pos_is : (s : List ℕ) → Part h s → (i : ℕ) → T (mem i s)
      → (at (arranged h s) (pos s i) ≡ at h i) × (behind (arranged h s) (pos s i) ≡ arranged h (part_ahead s i))
  pos_is [] P i q = absurd q
  pos_is (x ∷ s) P i q =
      let (e, a) = at_some h x P.0 in
      let g = arranged h s in
      let y = pos (x ∷ s) i in
      let c = arranged_cons x s e a in
      grind (arith, nat_tests, pos_is s, pos_case, at_new, behind_new, part_here, at_old, behind_old)

  pub part_split : (s : List ℕ) → Part h s → (i : ℕ) → T (mem i s) → Part h (i ∷ part_ahead s i)
  part_split [] P i q = absurd q
  part_split (x ∷ s) P i q = grind (arith, nat_tests, part_split s)

  pub pos_ahead : (s : List ℕ) → Part h s → (i j : ℕ) → T (mem i s) → T (mem j (part_ahead s i)) → pos s j < pos s i
  pos_ahead [] P i j q r = absurd q
  pos_ahead (x ∷ s) P i j q r = grind (arith, nat_tests, pos_ahead s, pos_case, part_here, pos_there, not_same, pos_lt, length_arranged, ahead_in)

  -- the event at a place of the arranged past, in the past
  pub pos_find : (s : List ℕ) → Part h s → (p : ℕ) (d : Event C)
      → at (arranged h s) p ≡ Some d → (i : ℕ) × T (mem i s) × (pos s i ≡ p) × (at h i ≡ Some d)
  pos_find [] P p d a = cc
  pos_find (x ∷ s) P p d a = grind (arith, nat_tests, pos_find s, at_some, at_case, arranged_cons, pos_here, length_arranged, pos_there, not_same)

  -- a test on events holds of some event of the arranged past
  pub any_arranged : (q : Event C → Bool) (s : List ℕ) → Part h s
      → T (any q (arranged h s)) → (i : ℕ) × (d : Event C) × T (mem i s) × (at h i ≡ Some d) × T (q d)
  any_arranged q s P y = grind (arith, nat_tests, any_at, pos_find)

  pub arranged_any : (q : Event C → Bool) (s : List ℕ) → Part h s → (i : ℕ) (d : Event C)
      → T (mem i s) → at h i ≡ Some d → T (q d) → T (any q (arranged h s))
  arranged_any q s P i d m a y = at_any q (arranged h s) (pos s i) d ((pos_is s P i m).0 ∙ a) y
