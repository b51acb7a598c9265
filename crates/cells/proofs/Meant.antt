-- What slots mean, from where a search for a key came to: each is met in turn, and those that have not the key are passed over.
use Rattle.std.proofs.Math.Path.{fun_ext}
use Rattle.std.proofs.lemmas.Bool.{cases_eq, cond-true, cond-false, eq-eqb, ne_eqb, lt-leb, le-leb, true≢false}
use Rattle.std.proofs.lemmas.Float.{T_from_true}
use Rattle.std.proofs.lemmas.List.{get_or-replicate, length-replicate, length-set, get_or-set_same, get_or-set_other, ext_get_or}
use Rattle.std.proofs.Common.{◌≡◌, ℕ, suc, ◌+◌, ◌<◌, ◌≤◌, ◌⊎◌, inl, inr, refl, sym, ap, subst, ◌∙◌, arith, Bool, true, false, cond, T, List, [], ◌∷◌, length, map, get_or, set, replicate, Some, None, Option, Ok, Err, Result, nat_le}
use Rattle.std.specs.Option.{option_map}
use Rattle.model.specs.Lists.{some_or}
use Rattle.model.specs.Parts.{Keyed, none_held, no_room}
use Rattle.cells.specs.declared.fault.CellFault.{CellFault}
use Rattle.cells.specs.declared.fault.CellFault.TheVariants.{NoRoom}
use Rattle.cells.specs.declared.slots.Seek.{Seek}
use Rattle.cells.specs.declared.slots.Seek.TheVariants.{Found, Free, Full}
use Rattle.cells.specs.Stores.{put_answer, after_put}
use Rattle.cells.specs.Slots.{Pairs, pair_at, used_in, find_in, keyed_in, has_key, Absent, Only, Sought, laid}

keyed : {K V : Type 0} (l l₂ n n₂ : ℕ) (f f₂ : K → Option V) → l ≡ l₂ → n ≡ n₂ → f ≡ f₂
    → ◌≡◌ {A = Keyed K V} (record { limit = l; count = n; find = f }) (record { limit = l₂; count = n₂; find = f₂ })
keyed l l₂ n n₂ f f₂ d e h = cc

-- a record holds what it was made of
pub held_new : {R P : Type 0} (held : R → Option P) {r made : R} {p : P} → held made ≡ Some p → r ≡ made → held r ≡ Some p
held_new held h e = ap held e ∙ h

-- blank slots hold nothing

pub pair_at-blank : {P : Type 0} (n i : ℕ) → pair_at {P = P} (replicate n None) i ≡ None
pair_at-blank ℕ.zero i = refl
pair_at-blank (suc n) ℕ.zero = refl
pair_at-blank (suc n) (suc i) = pair_at-blank n i

pub used_in-blank : (P : Type 0) (n : ℕ) → used_in {P = P} (replicate n None) ≡ 0
used_in-blank P ℕ.zero = refl
used_in-blank P (suc n) = used_in-blank P n

find_in-blank : {K V : Type 0} (same : K → K → Bool) (n : ℕ) (key : K) → find_in {K = K} {V = V} same (replicate n None) key ≡ None
find_in-blank same ℕ.zero key = refl
find_in-blank same (suc n) key = find_in-blank same n key

pub keyed_in-blank : {K V : Type 0} (same : K → K → Bool) (n : ℕ) → keyed_in {K = K} {V = V} same (replicate n None) ≡ none_held n
keyed_in-blank {K} {V} same n =
    keyed _ _ _ _ _ _ (length-replicate n None) (used_in-blank (K × V) n) (fun_ext (find_in-blank same n))

-- a loop that makes records blank, one after the other
module _ {R : Type 0} (b : R) (xs : List R) (i : ℕ) where
  pub blanked-more : (y : R) → y ≡ b → i < length xs → ((j : ℕ) → j < i → get_or xs j b ≡ b)
      → (j : ℕ) → j < i + 1 → get_or (set xs i y) j b ≡ b
  blanked-more y e l h j m = go (cases_eq j i)
    where
      go : (j ≡ i) ⊎ (j ≡ i → ⊥) → get_or (set xs i y) j b ≡ b
      go (inl q) = ap (λ k. get_or (set xs i y) k b) q ∙ get_or-set_same xs i y b l ∙ e
      go (inr d) = get_or-set_other xs i j y b d ∙ h j (omega (arith, d))

  pub blanked-all : (n : ℕ) → length xs ≡ n → length xs ≤ i → ((j : ℕ) → j < i → get_or xs j b ≡ b) → xs ≡ replicate n b
  blanked-all n e l h =
      let r = length-replicate n b in
      ext_get_or b xs (replicate n b) (e ∙ sym r) (λ j k. h j (omega (arith, k)) ∙ sym (get_or-replicate n j b b (omega (arith, k, e))))

-- blank records hold nothing
pub pairs-blank : {R P : Type 0} (held : R → Option P) (b : R) → held b ≡ None → (n : ℕ) (xs : List R) → xs ≡ replicate n b
    → map held xs ≡ replicate n None
pairs-blank {R} {P} held b e n xs h = ap (map held) h ∙ go n
  where
    go : (n : ℕ) → map held (replicate n b) ≡ replicate n None
    go ℕ.zero = refl
    go (suc n) = ap (λ (x : Option P). x ∷ map held (replicate n b)) e ∙ ap (λ (ys : List (Option P)). None ∷ ys) (go n)

-- a free slot is used
pub used_in-free : {P : Type 0} (xs : List (Option P)) (i : ℕ) (p : P) → i < length xs → pair_at xs i ≡ None
    → used_in (set xs i (Some p)) ≡ used_in xs + 1
used_in-free [] i p l e = let z : ⊥ = omega arith in absurd z
used_in-free (None ∷ xs) ℕ.zero p l e = omega arith
used_in-free (Some q ∷ xs) ℕ.zero p l e = let z : ◌≡◌ {A = ℕ} 0 1 = cc in let f : ⊥ = omega arith in absurd f
used_in-free (None ∷ xs) (suc i) p l e = used_in-free xs i p (omega arith) e
used_in-free (Some q ∷ xs) (suc i) p l e = let r = used_in-free xs i p (omega arith) e in omega (arith, r)

used_in_most : {P : Type 0} (xs : List (Option P)) → used_in xs ≤ length xs
used_in_most [] = omega arith
used_in_most (None ∷ xs) = let r = used_in_most xs in omega arith
used_in_most (Some p ∷ xs) = let r = used_in_most xs in omega arith

-- there is room where a slot is free
pub used_in-room : {P : Type 0} (xs : List (Option P)) (i : ℕ) → i < length xs → pair_at xs i ≡ None → used_in xs < length xs
used_in-room [] i l e = let z : ⊥ = omega arith in absurd z
used_in-room (None ∷ xs) ℕ.zero l e = let r = used_in_most xs in omega arith
used_in-room (Some q ∷ xs) ℕ.zero l e = let z : ◌≡◌ {A = ℕ} 0 1 = cc in let f : ⊥ = omega arith in absurd f
used_in-room (None ∷ xs) (suc i) l e = let r = used_in-room xs i (omega arith) e in omega arith
used_in-room (Some q ∷ xs) (suc i) l e = let r = used_in-room xs i (omega arith) e in omega arith

-- a used slot is used again
pub used_in-again : {P : Type 0} (xs : List (Option P)) (i : ℕ) (p q : P) → i < length xs → pair_at xs i ≡ Some q → used_in (set xs i (Some p)) ≡ used_in xs
used_in-again [] i p q l e = refl
used_in-again (None ∷ xs) ℕ.zero p q l e = let z : ◌≡◌ {A = ℕ} 0 1 = cc in let f : ⊥ = omega arith in absurd f
used_in-again (Some r ∷ xs) ℕ.zero p q l e = refl
used_in-again (None ∷ xs) (suc i) p q l e = used_in-again xs i p q (omega arith) e
used_in-again (Some r ∷ xs) (suc i) p q l e = ap suc (used_in-again xs i p q (omega arith) e)

add_none : (n : ℕ) → n ≡ n + 0
add_none n = omega arith

module _ {K V : Type 0} (same : K → K → Bool) (refl_same : (a : K) → same a a ≡ true) (exact : (a b : K) → T (same a b) → a ≡ b) where
  -- a slot without the key is passed over
  find_in-skip : (x : Option (K × V)) (xs : Pairs K V) (key : K) → has_key same key x ≡ false → find_in same (x ∷ xs) key ≡ find_in same xs key
  find_in-skip None xs key e = refl
  find_in-skip (Some p) xs key e = cond-false (same p.0 key) (Some p.1) (find_in same xs key) e

  -- the first slot with the key is found
  find_in-here : (xs : Pairs K V) (key : K) (i : ℕ) (p : K × V) → pair_at xs i ≡ Some p → same p.0 key ≡ true
      → ((j : ℕ) → j < i → has_key same key (pair_at xs j) ≡ false) → find_in same xs key ≡ Some p.1
  find_in-here [] key i p e s before = let z : ◌≡◌ {A = ℕ} 0 1 = cc in let f : ⊥ = omega arith in absurd f
  find_in-here (x ∷ xs) key ℕ.zero p e s before = ap (λ y. find_in same (y ∷ xs) key) e ∙ cond-true (same p.0 key) (Some p.1) (find_in same xs key) s
  find_in-here (x ∷ xs) key (suc i) p e s before =
      find_in-skip x xs key (before 0 (omega arith)) ∙ find_in-here xs key i p e s (λ j l. before (suc j) (omega arith))

  -- a slot that has not the key, before or after, is nothing to it
  find_in-else : (xs : Pairs K V) (key : K) (i : ℕ) (p : K × V) → same p.0 key ≡ false → has_key same key (pair_at xs i) ≡ false
      → find_in same (set xs i (Some p)) key ≡ find_in same xs key
  find_in-else [] key i p s e = refl
  find_in-else (x ∷ xs) key ℕ.zero p s e = find_in-skip (Some p) xs key s ∙ sym (find_in-skip x xs key e)
  find_in-else (None ∷ xs) key (suc i) p s e = find_in-else xs key i p s e
  find_in-else (Some q ∷ xs) key (suc i) p s e = ap (cond (same q.0 key) (Some q.1)) (find_in-else xs key i p s e)

  -- the slot that has a key holds the key with a value
  key_held : (xs : Pairs K V) (key : K) (i : ℕ) (x : Option (K × V)) → has_key same key x ≡ true → pair_at xs i ≡ x → (v : V) × (pair_at xs i ≡ Some (key, v))
  key_held xs key i None s e = absurd (true≢false (sym s))
  key_held xs key i (Some p) s e = (p.1, e ∙ ap (λ k. Some (k, p.1)) (exact p.0 key (T_from_true (same p.0 key) s)))

  pub only_pair : (xs : Pairs K V) (key : K) (i : ℕ) → Only same key i xs → (v : V) × (pair_at xs i ≡ Some (key, v))
  only_pair xs key i o = key_held xs key i (pair_at xs i) (o i ∙ eq-eqb i i refl) refl

  pub find_in-only : (xs : Pairs K V) (key : K) (i : ℕ) → i < length xs → Only same key i xs → find_in same xs key ≡ option_map (λ p. p.1) (pair_at xs i)
  find_in-only xs key i l o =
      let (v, e) = only_pair xs key i o in
      find_in-here xs key i (key, v) e (refl_same key) (λ j m. o j ∙ ne_eqb j i (omega arith)) ∙ sym (ap (option_map (λ p. p.1)) e)

  pub find_in-absent : (xs : Pairs K V) (key : K) → Absent same key xs → find_in same xs key ≡ None
  find_in-absent [] key a = refl
  find_in-absent (x ∷ xs) key a = find_in-skip x xs key (a 0) ∙ find_in-absent xs key (λ j. a (suc j))

  -- nothing is found where a search came to no slot of the key
  pub find_in-none : (xs : Pairs K V) (key : K) (seek : Seek) → Sought same key xs seek → ((i : ℕ) × (seek ≡ Free i)) ⊎ (seek ≡ Full)
      → find_in same xs key ≡ None
  find_in-none xs key seek s (inl (i, e)) = find_in-absent xs key (subst (Sought same key xs) e s).2
  find_in-none xs key seek s (inr e) = find_in-absent xs key (subst (Sought same key xs) e s).1

  -- what is found once a pair is laid in a slot, if no other slot has its key, and the slot has no other
  find_in-set : (xs : Pairs K V) (key : K) (v : V) (i : ℕ) → i < length xs
      → ((j : ℕ) → (j ≡ i → ⊥) → has_key same key (pair_at xs j) ≡ false)
      → ((q : K) → same key q ≡ false → has_key same q (pair_at xs i) ≡ false)
      → (q : K) → find_in same (set xs i (Some (key, v))) q ≡ cond (same key q) (Some v) (find_in same xs q)
  find_in-set xs key v i l others own q = go (same key q) refl
    where
      ahead : same key q ≡ true → (j : ℕ) → j < i → has_key same q (pair_at (set xs i (Some (key, v))) j) ≡ false
      ahead s j m =
          let off : j ≡ i → ⊥ = omega arith in
          ap (has_key same q) (get_or-set_other xs i j (Some (key, v)) None off)
          ∙ ap (λ k. has_key same k (pair_at xs j)) (sym (exact key q (T_from_true (same key q) s)))
          ∙ others j off

      go : (b : Bool) → same key q ≡ b → find_in same (set xs i (Some (key, v))) q ≡ cond (same key q) (Some v) (find_in same xs q)
      go true s =
          find_in-here (set xs i (Some (key, v))) q i (key, v) (get_or-set_same xs i (Some (key, v)) None l) s (ahead s)
          ∙ sym (cond-true (same key q) (Some v) (find_in same xs q) s)
      go false s = find_in-else xs q i (key, v) s (own q s) ∙ sym (cond-false (same key q) (Some v) (find_in same xs q) s)

  -- a put whose key is held, or has room, is taken
  found_room : (xs : Pairs K V) (key : K) (v : V) → find_in same xs key ≡ Some v → no_room (keyed_in same xs) key ≡ false
  found_room xs key v e = ap (some_or (λ x. false) (nat_le (length xs) (used_in xs))) e

  free_room : (xs : Pairs K V) (key : K) → used_in xs < length xs → no_room (keyed_in same xs) key ≡ false
  free_room xs key l = go (find_in same xs key)
    where
      go : (o : Option V) → some_or (λ x. false) (nat_le (length xs) (used_in xs)) o ≡ false
      go None = lt-leb (length xs) (used_in xs) l
      go (Some x) = refl

  full_room : (xs : Pairs K V) (key : K) → used_in xs ≡ length xs → Absent same key xs → no_room (keyed_in same xs) key ≡ true
  full_room xs key e a =
      ap (some_or (λ x. false) (nat_le (length xs) (used_in xs))) (find_in-absent xs key a) ∙ le-leb (length xs) (used_in xs) (omega (arith, e))

  -- what is laid where a search came to is put, or else the put is to be refused
  pub put_answer-sought : (xs : Pairs K V) (key : K) (seek : Seek) → Sought same key xs seek
      → put_answer (keyed_in same xs) key ≡ elim seek [ Found i ↦ Ok tt | Free i ↦ Ok tt | Full ↦ Err NoRoom ]
  put_answer-sought xs key (Found i) s =
      let (v, e) = only_pair xs key i s.1 in
      cond-false _ _ _ (found_room xs key v (find_in-only xs key i s.0 s.1 ∙ ap (option_map (λ p. p.1)) e))
  put_answer-sought xs key (Free i) s = cond-false _ _ _ (free_room xs key (used_in-room xs i s.0 s.1))
  put_answer-sought xs key Full s = cond-true _ _ _ (full_room xs key s.0 s.1)

  pub keyed_in-laid : (xs : Pairs K V) (key : K) (v : V) (seek : Seek) → Sought same key xs seek
      → keyed_in same (laid seek (key, v) xs) ≡ after_put same (keyed_in same xs) key v
  keyed_in-laid xs key v (Found i) s =
      let (w, e) = only_pair xs key i s.1 in
      let f : find_in same xs key ≡ Some w = find_in-only xs key i s.0 s.1 ∙ ap (option_map (λ p. p.1)) e in
      let counted : used_in xs ≡ used_in xs + some_or (λ x. 0) 1 (find_in same xs key) = add_none (used_in xs) ∙ sym (ap (λ o. used_in xs + some_or (λ x. 0) 1 o) f) in
      keyed _ _ _ _ _ _ (length-set xs i (Some (key, v))) (used_in-again xs i (key, v) (key, w) s.0 e ∙ counted)
      (fun_ext (find_in-set xs key v i s.0 (λ j d. s.1 j ∙ ne_eqb j i d) (λ q n. ap (has_key same q) e ∙ n)))
      ∙ sym (cond-false _ _ _ (found_room xs key w f))
  keyed_in-laid xs key v (Free i) s =
      keyed _ _ _ _ _ _ (length-set xs i (Some (key, v))) (used_in-free xs i (key, v) s.0 s.1 ∙ sym (ap (λ o. used_in xs + some_or (λ x. 0) 1 o) (find_in-absent xs key s.2)))
      (fun_ext (find_in-set xs key v i s.0 (λ j d. s.2 j) (λ q n. ap (has_key same q) s.1)))
      ∙ sym (cond-false _ _ _ (free_room xs key (used_in-room xs i s.0 s.1)))
  keyed_in-laid xs key v Full s = sym (cond-true _ _ _ (full_room xs key s.0 s.1))

  -- the slots once a pair is laid: what they mean, and how many are used
  pub meant_after_laid : (xs ys : Pairs K V) (key : K) (v : V) (seek : Seek) → Sought same key xs seek → ys ≡ laid seek (key, v) xs
      → keyed_in same ys ≡ after_put same (keyed_in same xs) key v
  meant_after_laid xs ys key v seek s e = ap (keyed_in same) e ∙ keyed_in-laid xs key v seek s

  pub answered_by : (xs : Pairs K V) (key : K) (seek by : Seek) → Sought same key xs seek → seek ≡ by
      → elim by as (λ s. Result (Unit {0}) CellFault) [ Found i ↦ Ok tt | Free i ↦ Ok tt | Full ↦ Err NoRoom ] ≡ put_answer (keyed_in same xs) key
  answered_by xs key seek by s e = sym (put_answer-sought xs key by (subst (Sought same key xs) e s))
