-- What a search comes to, from where the walk ends. The walk for a key that is held ends at its slot, so one that ends elsewhere
-- is for a key that is not held.
use Rattle.std.proofs.Common.{◌≡◌, ℕ, ◌+◌, ◌<◌, ◌≤◌, Bool, true, cond, T, List, length, set, Some, None, Option, is_some, Ok, refl, sym, ap, ◌∙◌, subst, inl, inr, arith}
use Rattle.std.specs.Ordering.{is_eq}
use Rattle.std.specs.Option.{option_map}
use Rattle.std.specs.declared.cmp.Ordering.{Ordering}
use Rattle.std.specs.declared.cmp.Ordering.TheVariants.{Less, Equal, Greater}
use Rattle.std.proofs.lemmas.Bool.{cases_eq, ne_eqb, eq-eqb, false_from_ne_true, both_ways}
use Rattle.std.proofs.lemmas.Float.{T_from_true}
use Rattle.std.proofs.lemmas.List.{nil_from_length}
use Rattle.cells.specs.declared.node.Links.{Links}
use Rattle.cells.specs.declared.node.Side.{Side}
use Rattle.cells.specs.declared.nodes.Stop.{Stop}
use Rattle.cells.specs.declared.nodes.Stop.TheVariants.{At, Off}
use Rattle.cells.specs.declared.slots.Seek.TheVariants.{Found, Free, Full}
use Rattle.cells.specs.Slots.{Pairs, pair_at, used_in, find_in, keyed_in, has_key, Absent, Sought}
use Rattle.cells.specs.Walks.{side_by, side_of, walk_for, Grown}
use Rattle.cells.specs.Stores.{put_answer, after_put}
use Rattle.cells.proofs.Meant.{used_in-free, used_in-again, find_in-only, find_in-absent, put_answer-sought, keyed_in-laid}
use Rattle.cells.proofs.Walking.{used_fits, is_used, is_free, told_at, told_none, some_slot, at_from}

module _ {K V : Type 0} (cmp : K → K → Ordering) (same : K → K → Bool) (matches : (a b : K) → same a b ≡ is_eq (cmp a b))
    (refl_same : (a : K) → same a a ≡ true) (exact : (a b : K) → T (same a b) → a ≡ b) where
  -- a key hangs on no side of its own slot, and of no other that is used
  pub own_side : (key : K) (v : V) → side_of cmp key (Some (key, v)) ≡ None
  own_side key v = go (cmp key key) (sym (matches key key) ∙ refl_same key)
    where
      go : (o : Ordering) → is_eq o ≡ true → side_by o ≡ None
      go Less e = cc
      go Equal e = refl
      go Greater e = cc

  pub own_key : (key : K) (p : K × V) → side_of cmp key (Some p) ≡ None → p.0 ≡ key
  own_key key p n = sym (exact key p.0 (T_from_true (same key p.0) (matches key p.0 ∙ go (cmp key p.0) n)))
    where
      go : (o : Ordering) → side_by o ≡ None → is_eq o ≡ true
      go Less e = cc
      go Equal e = refl
      go Greater e = cc

  module _ (xs : Pairs K V) (ls : List Links) (used : ℕ) (g : Grown cmp xs ls used) where
    held_at : (key : K) (j : ℕ) → has_key same key (pair_at xs j) ≡ true → walk_for cmp xs ls key ≡ Some (At j)
    held_at key j h = go (pair_at xs j) refl
      where
        go : (o : Option (K × V)) → pair_at xs j ≡ o → walk_for cmp xs ls key ≡ Some (At j)
        go None q = absurd (both_ways (has_key same key (pair_at xs j)) (ap (has_key same key) q) h)
        go (Some p) q =
            let e : p.0 ≡ key = exact p.0 key (T_from_true (same p.0 key) (sym (ap (has_key same key) q) ∙ h)) in
            ap (walk_for cmp xs ls) (sym e) ∙ at_from (walk_for cmp xs ls p.0) j (g.routed j p q)

    absent : (key : K) → ((j : ℕ) → walk_for cmp xs ls key ≡ Some (At j) → pair_at xs j ≡ None) → Absent same key xs
    absent key a j =
        false_from_ne_true (has_key same key (pair_at xs j))
        (λ h. both_ways (has_key same key (pair_at xs j)) (ap (has_key same key) (a j (held_at key j h))) h)

    -- a walk that ends at no slot
    pub absent_since : (key : K) (o : Option Stop) → o ≡ walk_for cmp xs ls key → ((i : ℕ) → o ≡ Some (At i) → ⊥)
        → Absent same key xs
    absent_since key o e n = absent key (λ j v. absurd (n j (e ∙ v)))

    pub at_fits : (key : K) (i : ℕ) → walk_for cmp xs ls key ≡ Some (At i) → i < length xs
    at_fits key i w =
        let l = some_slot cmp xs ls key (At i) w in
        let t = (told_at cmp xs ls used g key i l w).1 in
        let u = used_fits cmp xs ls used g in
        omega arith

    -- the key of the slot where a walk ends is the one that was walked for
    pub end_key : (key : K) (i : ℕ) (p : K × V) → walk_for cmp xs ls key ≡ Some (At i) → pair_at xs i ≡ Some p → p.0 ≡ key
    end_key key i p w q =
        own_key key p (sym (ap (side_of cmp key) q) ∙ (told_at cmp xs ls used g key i (some_slot cmp xs ls key (At i) w) w).0)

    pub sought_found : (key : K) (i : ℕ) (p : K × V) → walk_for cmp xs ls key ≡ Some (At i) → pair_at xs i ≡ Some p
        → Sought same key xs (Found i)
    sought_found key i p w q =
        let u = used_fits cmp xs ls used g in
        let l = is_used cmp xs ls used g i p q in (
          omega arith,
          λ j. elim (cases_eq j i) [
            | inl e ↦
                ap (λ x. has_key same key (pair_at xs x)) e ∙ (ap (has_key same key) q
                ∙ (ap (λ x. same x key) (end_key key i p w q) ∙ (refl_same key ∙ sym (eq-eqb j i e))))
            | inr d ↦
                false_from_ne_true (has_key same key (pair_at xs j))
                (λ h. let s : Some (At i) ≡ Some (At j) = sym w ∙ held_at key j h in
                d cc)
                ∙ sym (ne_eqb j i d)
          ],
        )

    -- a walk ends at a free slot only if that is the root, and then nothing is held
    pub sought_root : (key : K) (i : ℕ) → walk_for cmp xs ls key ≡ Some (At i) → pair_at xs i ≡ None
        → (i ≡ 0) × (used ≡ 0) × Sought same key xs (Free i)
    sought_root key i w q =
        let l = some_slot cmp xs ls key (At i) w in
        let t = (told_at cmp xs ls used g key i l w).1 in
        let f = is_free cmp xs ls used g i q in (
          omega arith,
          omega arith,
          (
            omega arith,
            q,
            absent key (λ j v.
                let s : Some (At i) ≡ Some (At j) = sym w ∙ v in
                let e : i ≡ j = cc in
                ap (pair_at xs) (sym e) ∙ q),
          ),
        )

    pub absent_off : (key : K) (i : ℕ) (s : Side) → walk_for cmp xs ls key ≡ Some (Off i s) → Absent same key xs
    absent_off key i s w = absent key (λ j v. let z : Some (Off i s) ≡ Some (At j) = sym w ∙ v in cc)

    pub sought_free : (key : K) (i : ℕ) (s : Side) → walk_for cmp xs ls key ≡ Some (Off i s) → used < length xs
        → Sought same key xs (Free used)
    sought_free key i s w l = (l, go (pair_at xs used) refl, absent_off key i s w)
      where
        go : (o : Option (K × V)) → pair_at xs used ≡ o → pair_at xs used ≡ None
        go None q = q
        go (Some p) q = let x = is_used cmp xs ls used g used p q in absurd (omega arith)

    pub sought_full : (key : K) (i : ℕ) (s : Side) → walk_for cmp xs ls key ≡ Some (Off i s) → length xs ≤ used
        → used ≡ used_in xs → Sought same key xs Full
    sought_full key i s w l c = let u = used_fits cmp xs ls used g in (omega arith, absent_off key i s w)

    pub sought_none : (key : K) → walk_for cmp xs ls key ≡ None → Sought same key xs Full
    sought_none key w =
        let e = told_none cmp xs ls used g key w in (
          subst (λ (ys : Pairs K V). used_in ys ≡ length ys) (sym (nil_from_length xs e)) refl,
          absent key (λ j v. let z : None ≡ Some (At j) = sym w ∙ v in cc),
        )

    -- what is found where the walk ends at a slot
    pub find_at : (key : K) (i : ℕ) → walk_for cmp xs ls key ≡ Some (At i)
        → find_in same xs key ≡ option_map (λ p. p.1) (pair_at xs i)
    find_at key i w = go (pair_at xs i) refl
      where
        go : (o : Option (K × V)) → pair_at xs i ≡ o → find_in same xs key ≡ option_map (λ p. p.1) (pair_at xs i)
        go None q =
            find_in-absent same refl_same exact xs key (sought_root key i w q).2.2 ∙ sym (ap (option_map (λ p. p.1)) q)
        go (Some p) q = let s = sought_found key i p w q in find_in-only same refl_same exact xs key i s.0 s.1

    -- a put where the walk ends at a slot: its answer, and what is meant after it
    pub put_at : (key : K) (i : ℕ) (v : V) → walk_for cmp xs ls key ≡ Some (At i)
        → (put_answer (keyed_in same xs) key ≡ Ok tt)
        × (keyed_in same (set xs i (Some (key, v))) ≡ after_put same (keyed_in same xs) key v)
    put_at key i v w = go (pair_at xs i) refl
      where
        go : (o : Option (K × V)) → pair_at xs i ≡ o → (put_answer (keyed_in same xs) key ≡ Ok tt)
            × (keyed_in same (set xs i (Some (key, v))) ≡ after_put same (keyed_in same xs) key v)
        go None q =
            let s = (sought_root key i w q).2 in
            (put_answer-sought same refl_same exact xs key (Free i) s, keyed_in-laid same refl_same exact xs key v (Free i) s)
        go (Some p) q =
            let s = sought_found key i p w q in
            (put_answer-sought same refl_same exact xs key (Found i) s, keyed_in-laid same refl_same exact xs key v (Found i) s)

-- how many slots are used then
pub counted_at : {P : Type 0} (xs : List (Option P)) (i : ℕ) (p : P) → i < length xs
    → cond (is_some (pair_at xs i)) (used_in xs) (used_in xs + 1) ≡ used_in (set xs i (Some p))
counted_at {P} xs i p l = go (pair_at xs i) refl
  where
    go : (o : Option P) → pair_at xs i ≡ o
        → cond (is_some (pair_at xs i)) (used_in xs) (used_in xs + 1) ≡ used_in (set xs i (Some p))
    go None q = simp q (sym (used_in-free xs i p l q))
    go (Some r) q = simp q (sym (used_in-again xs i p r l q))
