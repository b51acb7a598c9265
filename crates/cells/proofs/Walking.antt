-- Where a walk ends. Past the root it visits used slots alone, each after the one before: a step for each slot suffices.
use Rattle.std.proofs.Common.{◌≡◌, ℕ, suc, ◌+◌, ◌-◌, ◌<◌, ◌≤◌, true, List, length, Some, None, Option, is_some, refl, sym, ap, ◌∙◌, subst, inl, inr, arith}
use Rattle.std.specs.declared.cmp.Ordering.{Ordering}
use Rattle.std.proofs.lemmas.Bool.{cases_eq, ne_eqb, ltb-true, ltb-false, eqb-true}
use Rattle.std.proofs.lemmas.List.{get_or_past}
use Rattle.cells.specs.declared.node.Links.{Links}
use Rattle.cells.specs.declared.node.Side.{Side}
use Rattle.cells.specs.declared.nodes.Stop.{Stop}
use Rattle.cells.specs.declared.nodes.Stop.TheVariants.{At, Off}
use Rattle.cells.specs.Slots.{Pairs, pair_at}
use Rattle.cells.specs.Walks.{link_at, side_of, is_at, walk, walk_for, Grown}

-- ---- a step

module _ {K V : Type 0} (cmp : K → K → Ordering) (xs : Pairs K V) (ls : List Links) (key : K) where
  pub step_at : (f i : ℕ) → side_of cmp key (pair_at xs i) ≡ None → walk cmp xs ls (suc f) key i ≡ Some (At i)
  step_at f i e = simp e

  pub step_off : (f i : ℕ) (s : Side) → side_of cmp key (pair_at xs i) ≡ Some s → link_at ls i s ≡ 0
      → walk cmp xs ls (suc f) key i ≡ Some (Off i s)
  step_off f i s e z = simp (e, z)

  pub step_on : (f i : ℕ) (s : Side) → side_of cmp key (pair_at xs i) ≡ Some s → 0 < link_at ls i s
      → walk cmp xs ls (suc f) key i ≡ walk cmp xs ls f key (link_at ls i s)
  step_on f i s e l = simp (e, ne_eqb (link_at ls i s) 0 (λ q. omega arith))

  pub data Way (i : ℕ) : Type 0 where
    stays : side_of cmp key (pair_at xs i) ≡ None → Way i
    falls : (s : Side) → side_of cmp key (pair_at xs i) ≡ Some s → link_at ls i s ≡ 0 → Way i
    goes : (s : Side) → side_of cmp key (pair_at xs i) ≡ Some s → 0 < link_at ls i s → Way i

  -- which of the three a step is
  pub way : (i : ℕ) → Way i
  way i = go (side_of cmp key (pair_at xs i)) refl
    where
      go : (o : Option Side) → side_of cmp key (pair_at xs i) ≡ o → Way i
      go None e = stays e
      go (Some s) e = elim (cases_eq (link_at ls i s) 0) [ inl z ↦ falls s e z | inr d ↦ goes s e (omega arith) ]

-- ---- all steps

module _ {K V : Type 0} (cmp : K → K → Ordering) (xs : Pairs K V) (ls : List Links) (used : ℕ) (g : Grown cmp xs ls used) where
  pub used_fits : used ≤ length xs
  used_fits = ltb-false (length xs) used (sym (g.filled (length xs)) ∙ ap is_some (get_or_past xs (length xs) None (omega arith)))

  pub is_used : (i : ℕ) (p : K × V) → pair_at xs i ≡ Some p → i < used
  is_used i p e = ltb-true i used (sym (g.filled i) ∙ ap is_some e)

  pub is_free : (i : ℕ) → pair_at xs i ≡ None → used ≤ i
  is_free i e = ltb-false i used (sym (g.filled i) ∙ ap is_some e)

  pub side_used : (key : K) (i : ℕ) (s : Side) → side_of cmp key (pair_at xs i) ≡ Some s → i < used
  side_used key i s e = go (pair_at xs i) refl
    where
      go : (o : Option (K × V)) → pair_at xs i ≡ o → i < used
      go None q = let z : Some s ≡ None = sym e ∙ ap (side_of cmp key) q in cc
      go (Some p) q = is_used i p q

  pub rises : (i : ℕ) (s : Side) → i < used → 0 < link_at ls i s → (i < link_at ls i s) × (link_at ls i s < used)
  rises i s l p = g.rising i s p

  -- one step more changes nothing
  more_fuel : (key : K) (f i : ℕ) → i < length xs → length xs ≤ i + f → walk cmp xs ls (suc f) key i ≡ walk cmp xs ls f key i
  more_fuel key ℕ.zero i l e = absurd (omega arith)
  more_fuel key (suc f) i l e = elim (way cmp xs ls key i) [
    | stays n ↦ step_at cmp xs ls key (suc f) i n ∙ sym (step_at cmp xs ls key f i n)
    | falls s n z ↦ step_off cmp xs ls key (suc f) i s n z ∙ sym (step_off cmp xs ls key f i s n z)
    | goes s n p ↦ (
        let u = used_fits in
        let r = rises i s (side_used key i s n) p in
        step_on cmp xs ls key (suc f) i s n p
        ∙ (more_fuel key f (link_at ls i s) (omega arith) (omega arith)
        ∙ sym (step_on cmp xs ls key f i s n p)))
  ]

  -- the walk from a slot, with as many steps as there are slots
  abbrev pub walk_on : K → ℕ → Option Stop
  walk_on key i = walk cmp xs ls (length xs) key i

  pub on_at : (key : K) (i : ℕ) → i < length xs → side_of cmp key (pair_at xs i) ≡ None → walk_on key i ≡ Some (At i)
  on_at key i l n = go (length xs) refl
    where
      go : (f : ℕ) → length xs ≡ f → walk cmp xs ls f key i ≡ Some (At i)
      go ℕ.zero e = absurd (omega arith)
      go (suc f) e = step_at cmp xs ls key f i n

  pub on_off : (key : K) (i : ℕ) (s : Side) → i < length xs → side_of cmp key (pair_at xs i) ≡ Some s → link_at ls i s ≡ 0
      → walk_on key i ≡ Some (Off i s)
  on_off key i s l n z = go (length xs) refl
    where
      go : (f : ℕ) → length xs ≡ f → walk cmp xs ls f key i ≡ Some (Off i s)
      go ℕ.zero e = absurd (omega arith)
      go (suc f) e = step_off cmp xs ls key f i s n z

  pub on_on : (key : K) (i : ℕ) (s : Side) → i < length xs → side_of cmp key (pair_at xs i) ≡ Some s → 0 < link_at ls i s
      → (i < link_at ls i s) × (link_at ls i s < length xs) × (walk_on key i ≡ walk_on key (link_at ls i s))
  on_on key i s l n p =
      let u = used_fits in
      let r = rises i s (side_used key i s n) p in
      (r.0, omega arith, go (length xs) refl)
    where
      go : (f : ℕ) → length xs ≡ f → walk cmp xs ls f key i ≡ walk cmp xs ls f key (link_at ls i s)
      go ℕ.zero e = absurd (omega arith)
      go (suc f) e =
          let u = used_fits in
          let r = rises i s (side_used key i s n) p in
          step_on cmp xs ls key f i s n p ∙ sym (more_fuel key f (link_at ls i s) (omega arith) (omega arith))

  -- ---- the end

  -- what an end tells: it is at the root or a used slot, where the key hangs on no side; or at the side of a slot where it hangs
  abbrev pub Told : K → Option Stop → Type 0
  Told key None = ⊥
  Told key (Some (At j)) = (side_of cmp key (pair_at xs j) ≡ None) × (j ≤ used - 1)
  Told key (Some (Off j s)) = (side_of cmp key (pair_at xs j) ≡ Some s) × (link_at ls j s ≡ 0)

  told_from : (key : K) (f i : ℕ) → i < length xs → i ≤ used - 1 → length xs ≤ i + f → Told key (walk cmp xs ls f key i)
  told_from key ℕ.zero i l m e = absurd (omega arith)
  told_from key (suc f) i l m e = elim (way cmp xs ls key i) [
    | stays n ↦ subst (Told key) (sym (step_at cmp xs ls key f i n)) (n, m)
    | falls s n z ↦ subst (Told key) (sym (step_off cmp xs ls key f i s n z)) (n, z)
    | goes s n p ↦ (
        let u = used_fits in
        let r = rises i s (side_used key i s n) p in
        subst (Told key) (sym (step_on cmp xs ls key f i s n p))
        (told_from key f (link_at ls i s) (omega arith) (omega arith) (omega arith)))
  ]

  pub told : (key : K) → 0 < length xs → Told key (walk_for cmp xs ls key)
  told key l = told_from key (length xs) 0 l (omega arith) (omega arith)

  pub told_at : (key : K) (j : ℕ) → 0 < length xs → walk_for cmp xs ls key ≡ Some (At j)
      → (side_of cmp key (pair_at xs j) ≡ None) × (j ≤ used - 1)
  told_at key j l e = subst (Told key) e (told key l)

  pub told_off : (key : K) (j : ℕ) (s : Side) → 0 < length xs → walk_for cmp xs ls key ≡ Some (Off j s)
      → (side_of cmp key (pair_at xs j) ≡ Some s) × (link_at ls j s ≡ 0)
  told_off key j s l e = subst (Told key) e (told key l)

-- a walk that ends nowhere has no slot to begin at
pub told_none : {K V : Type 0} (cmp : K → K → Ordering) (xs : Pairs K V) (ls : List Links) (used : ℕ) (g : Grown cmp xs ls used)
    (key : K) → walk_for cmp xs ls key ≡ None → length xs ≡ 0
told_none cmp xs ls used g key e = elim (cases_eq (length xs) 0) [
  | inl z ↦ z
  | inr d ↦ absurd (subst (Told cmp xs ls used g key) e (told cmp xs ls used g key (omega arith)))
]

-- an end at a slot was reached through slots
pub some_slot : {K V : Type 0} (cmp : K → K → Ordering) (xs : Pairs K V) (ls : List Links) (key : K) (j : Stop)
    → walk_for cmp xs ls key ≡ Some j → 0 < length xs
some_slot cmp xs ls key j e = go (length xs) e
  where
    go : (f : ℕ) → walk cmp xs ls f key 0 ≡ Some j → 0 < f
    go ℕ.zero q = cc
    go (suc f) q = omega arith

pub at_from : (o : Option Stop) (j : ℕ) → is_at o j ≡ true → o ≡ Some (At j)
at_from None j e = cc
at_from (Some (At i)) j e = ap (λ x. Some (At x)) (eqb-true i j e)
at_from (Some (Off i s)) j e = cc
