-- A search that stops at a slot has passed every slot that could have its key; a key laid where it stopped can be found again.
use Rattle.std.proofs.Common.{◌≡◌, refl, sym, ap, subst, ◌∙◌, ◌⊎◌, inl, inr, ℕ, suc, ◌^◌, ◌<◌, ◌≤◌, arith}
use Rattle.std.proofs.Common.{Bool, true, false, cond, not, T, ◌==◌, [], ◌∷◌, length, set, replicate, Some, None, Option}
use Rattle.std.proofs.Math.Nat.{div-lt_iff_lt-mul, mul-lt-mul_of_pos_right}
use Rattle.std.proofs.lemmas.Bool.{both_ways, cases_Bool, cases_eq, cases_lt, cases_order, not-true, eq-eqb, ne_eqb}
use Rattle.std.proofs.lemmas.Bool.Decides.{nat_tests}
use Rattle.std.proofs.lemmas.Float.{T_from_true}
use Rattle.std.proofs.lemmas.List.{get_or-set_same, get_or-set_other, get_or_past, length-set}
use Rattle.cells.specs.declared.slots.Seek.{Seek}
use Rattle.cells.specs.declared.slots.Seek.TheVariants.{Found, Free, Full}
use Rattle.cells.specs.Slots.{Pairs, pair_at, used_in, has_key, Absent, Sought, laid}
use Rattle.cells.specs.Probes.{home, visit, distance, has_other, met, Passed, PassedTo, Probed, FreeFound}
use Rattle.cells.proofs.Meant.{pair_at-blank, only_pair}

-- the ring of slots

pub home_within : (n h : ℕ) → h < 2 ^ 64 → 0 < n → home n h < n
home_within n h small some =
    let l = mul-lt-mul_of_pos_right small some in
    (div-lt_iff_lt-mul {k = 2 ^ 64} (omega arith)).1 (omega arith)

pub visit_within : (n h d : ℕ) → h < n → d < n → visit n h d < n
visit_within n h d l m = grind (arith, nat_tests)

pub distance_within : (n h j : ℕ) → h < n → j < n → distance n h j < n
distance_within n h j l m = grind (arith, nat_tests)

pub distance-visit : (n h d : ℕ) → h < n → d < n → distance n h (visit n h d) ≡ d
distance-visit n h d l m = grind (arith, nat_tests)

pub visit-distance : (n h j : ℕ) → h < n → j < n → visit n h (distance n h j) ≡ j
visit-distance n h j l m = grind (arith, nat_tests)

none_some : {P : Type 0} (p : P) → None ≡ Some p → ⊥
none_some p e = let z : ◌≡◌ {A = ℕ} 0 1 = cc in omega arith

module _ {K V : Type 0} (same : K → K → Bool) where
  other_lacks : (key : K) (o : Option (K × V)) → has_other same key o ≡ true → has_key same key o ≡ false
  other_lacks key None h = refl
  other_lacks key (Some p) h = not-true (same p.0 key) h

  -- all slots are used by other keys: so all are used, and none has the key

  used_in-others : (key : K) (xs : Pairs K V) → ((j : ℕ) → j < length xs → has_other same key (pair_at xs j) ≡ true)
      → used_in xs ≡ length xs
  used_in-others key [] o = refl
  used_in-others key (None ∷ xs) o = absurd (both_ways false refl (o 0 (omega arith)))
  used_in-others key (Some p ∷ xs) o = ap suc (used_in-others key xs (λ j l. o (suc j) (omega arith)))

  absent-others : (key : K) (xs : Pairs K V) → ((j : ℕ) → j < length xs → has_other same key (pair_at xs j) ≡ true)
      → Absent same key xs
  absent-others key xs o j = go (cases_lt j (length xs))
    where
      go : (j < length xs) ⊎ (length xs ≤ j) → has_key same key (pair_at xs j) ≡ false
      go (inl l) = other_lacks key (pair_at xs j) (o j l)
      go (inr p) = ap (has_key same key) (get_or_past xs j None p)

  pub probed-blank : (hashed : K → ℕ) (n : ℕ) (xs : Pairs K V) → xs ≡ replicate n None → Probed same hashed xs
  probed-blank hashed n xs b j key v l e =
      absurd (none_some (key, v) (sym (pair_at-blank n j) ∙ (sym (ap (λ ys. pair_at ys j) b) ∙ e)))

module _ {K V : Type 0} (same : K → K → Bool) (refl_same : (a : K) → same a a ≡ true)
    (exact : (a b : K) → T (same a b) → a ≡ b) where
  -- a slot that holds the key has it, and is not used by another

  has_own : (key : K) (v : V) (o : Option (K × V)) → o ≡ Some (key, v) → has_key same key o ≡ true
  has_own key v o e = ap (has_key same key) e ∙ refl_same key

  no_other : (key : K) (v : V) (o : Option (K × V)) → o ≡ Some (key, v) → has_other same key o ≡ false
  no_other key v o e = ap (has_other same key) e ∙ ap not (refl_same key)

  exactly : (key : K) (p : K × V) → same p.0 key ≡ true → Some p ≡ Some (key, p.1)
  exactly key p e = ap (λ (x : K). Some (x, p.1)) (exact p.0 key (T_from_true (same p.0 key) e))

  lacks_or_holds : (key : K) (o : Option (K × V)) → (has_key same key o ≡ false) ⊎ ((v : V) × (o ≡ Some (key, v)))
  lacks_or_holds key None = inl refl
  lacks_or_holds key (Some p) = go (cases_Bool (same p.0 key))
    where
      go : (same p.0 key ≡ true) ⊎ (same p.0 key ≡ false) → (same p.0 key ≡ false) ⊎ ((v : V) × (Some p ≡ Some (key, v)))
      go (inl e) = inr (p.1, exactly key p e)
      go (inr e) = inl e

  module _ (hashed : K → ℕ) (small : (a : K) → hashed a < 2 ^ 64) where
    home_in : (xs : Pairs K V) (key : K) (j : ℕ) → j < length xs → home (length xs) (hashed key) < length xs
    home_in xs key j l = home_within (length xs) (hashed key) (small key) (omega arith)

    -- the slot j is one of the first t from the key's home slot on, which are used by other keys
    on_way : (xs : Pairs K V) (key : K) (t j : ℕ) → j < length xs → Passed same key xs (home (length xs) (hashed key)) t
        → distance (length xs) (home (length xs) (hashed key)) j < t → has_other same key (pair_at xs j) ≡ true
    on_way xs key t j l p u =
        let n = length xs in
        let h = home n (hashed key) in
        let is_j = visit-distance n h j (home_in xs key j l) l in
        subst (λ x. has_other same key (pair_at xs x) ≡ true) is_j (p (distance n h j) u)

    module _ (xs : Pairs K V) (probed : Probed same hashed xs) (key : K) where
      -- no slot can hold the key but the one where a search for it stops
      only_stop : (i : ℕ) → i < length xs → PassedTo same hashed key xs i → has_other same key (pair_at xs i) ≡ false
          → (j : ℕ) (v : V) → j < length xs → pair_at xs j ≡ Some (key, v) → j ≡ i
      only_stop i l p stop j v m e = go (cases_order (to i) (to j))
        where
          n : ℕ
          n = length xs

          h : ℕ
          h = home n (hashed key)

          to : ℕ → ℕ
          to x = distance n h x

          first : h < n
          first = home_in xs key i l

          go : (to i ≡ to j) ⊎ ((to i < to j) ⊎ (to j < to i)) → j ≡ i
          go (inl q) = sym (visit-distance n h j first m) ∙ (ap (visit n h) (sym q) ∙ visit-distance n h i first l)
          go (inr (inl q)) =
              absurd (both_ways (has_other same key (pair_at xs i)) stop (on_way xs key (to j) i l (probed j key v m e) q))
          go (inr (inr q)) =
              let own = no_other key v (pair_at xs j) e in
              absurd (both_ways (has_other same key (pair_at xs j)) own (on_way xs key (to i) j m p q))

      lacks : (i : ℕ) → i < length xs → PassedTo same hashed key xs i → has_other same key (pair_at xs i) ≡ false
          → (j : ℕ) → (j ≡ i → ⊥) → has_key same key (pair_at xs j) ≡ false
      lacks i l p stop j d = go (cases_lt j (length xs)) (lacks_or_holds key (pair_at xs j))
        where
          go : (j < length xs) ⊎ (length xs ≤ j)
              → (has_key same key (pair_at xs j) ≡ false) ⊎ ((v : V) × (pair_at xs j ≡ Some (key, v)))
              → has_key same key (pair_at xs j) ≡ false
          go b (inl a) = a
          go (inl m) (inr (v, e)) = absurd (d (only_stop i l p stop j v m e))
          go (inr m) (inr (v, e)) = absurd (none_some (key, v) (sym (get_or_past xs j None m) ∙ e))

      -- a search has passed the first d of n slots from the slot h on
      module _ (n hash h d : ℕ) (size : n ≡ length xs) (is_hash : hash ≡ hashed key) (is_home : h ≡ home n hash)
          (passed : Passed same key xs h d) where
        start : h ≡ home n (hashed key)
        start = is_home ∙ ap (home n) is_hash

        from : h ≡ home (length xs) (hashed key)
        from = start ∙ ap (λ x. home x (hashed key)) size

        -- it is at the slot i
        module _ (i : ℕ) (more : d < n) (place : i ≡ visit n h d) where
          first : h < n
          first = let s = small key in subst (λ x. x < n) (sym start) (home_within n (hashed key) s (omega arith))

          within : i < length xs
          within = subst (λ x. i < x) size (subst (λ x. x < n) (sym place) (visit_within n h d first more))

          far : distance (length xs) (home (length xs) (hashed key)) i ≡ d
          far =
              sym (ap (λ x. distance (length xs) x i) from)
              ∙ (sym (ap (λ x. distance x h i) size) ∙ (ap (distance n h) place ∙ distance-visit n h d first more))

          pub passed_to : PassedTo same hashed key xs i
          passed_to k u =
              let other = passed k (subst (λ x. k < x) far u) in
              subst (λ x. has_other same key (pair_at xs (visit (length xs) x k)) ≡ true) from other

          -- the slot is free, or has the key

          sought_free : pair_at xs i ≡ None → Sought same key xs (Free i)
          sought_free e = (within, e, λ j. at j (cases_eq j i))
            where
              at : (j : ℕ) → (j ≡ i) ⊎ (j ≡ i → ⊥) → has_key same key (pair_at xs j) ≡ false
              at j (inl q) = ap (λ x. has_key same key (pair_at xs x)) q ∙ ap (has_key same key) e
              at j (inr d) = lacks i within passed_to (ap (has_other same key) e) j d

          sought_found : (p : K × V) → pair_at xs i ≡ Some p → same p.0 key ≡ true → Sought same key xs (Found i)
          sought_found p f y = (within, λ j. at j (cases_eq j i))
            where
              e : pair_at xs i ≡ Some (key, p.1)
              e = f ∙ exactly key p y

              at : (j : ℕ) → (j ≡ i) ⊎ (j ≡ i → ⊥) → has_key same key (pair_at xs j) ≡ (j == i)
              at j (inl q) = ap (λ x. has_key same key (pair_at xs x)) q ∙ (has_own key p.1 (pair_at xs i) e ∙ sym (eq-eqb j i q))
              at j (inr d) = lacks i within passed_to (no_other key p.1 (pair_at xs i) e) j d ∙ sym (ne_eqb j i d)

          -- what it comes to there
          pub sought_met : (seek : Seek) → met same key i (pair_at xs i) ≡ Some seek
              → Sought same key xs seek × FreeFound same hashed key xs seek
          sought_met seek e = go (pair_at xs i) refl e
            where
              Come : Seek → Type 0
              Come seek = Sought same key xs seek × FreeFound same hashed key xs seek

              own : (p : K × V) (t : Bool) → pair_at xs i ≡ Some p → same p.0 key ≡ t → cond t (Some (Found i)) None ≡ Some seek → Come seek
              own p true q y e = let s : Found i ≡ seek = cc in subst Come s (sought_found p q y, tt)
              own p false q y e = cc

              go : (o : Option (K × V)) → pair_at xs i ≡ o → met same key i o ≡ Some seek → Come seek
              go None q e = let s : Free i ≡ seek = cc in subst Come s (sought_free q, passed_to)
              go (Some p) q e = own p (same p.0 key) q refl e

        pub sought_full : n ≤ d → Sought same key xs Full
        sought_full all = (used_in-others same key xs others, absent-others same key xs others)
          where
            others : (j : ℕ) → j < length xs → has_other same key (pair_at xs j) ≡ true
            others j l =
                let m = length xs in
                let b = distance_within m (home m (hashed key)) j (home_in xs key j l) l in
                on_way xs key m j l (subst (λ x. Passed same key xs x m) from (λ k u. passed k (omega arith))) b

      -- slots stay probed when the key is laid at the slot i, if that is used by no key that it was not used by before
      probed-set : (v : V) (i : ℕ) → i < length xs → PassedTo same hashed key xs i
          → ((q : K) → has_other same q (pair_at xs i) ≡ true → has_other {V = V} same q (Some (key, v)) ≡ true)
          → Probed same hashed (set xs i (Some (key, v)))
      probed-set v i l t alike = subst Stays (sym (length-set xs i (Some (key, v)))) go
        where
          ys : Pairs K V
          ys = set xs i (Some (key, v))

          Stays : ℕ → Type 0
          Stays n = (j : ℕ) (q : K) (w : V) → j < n → pair_at ys j ≡ Some (q, w)
              → (d : ℕ) → d < distance n (home n (hashed q)) j
              → has_other same q (pair_at ys (visit n (home n (hashed q)) d)) ≡ true

          here : pair_at ys i ≡ Some (key, v)
          here = get_or-set_same xs i (Some (key, v)) None l

          there : (j : ℕ) → (j ≡ i → ⊥) → pair_at ys j ≡ pair_at xs j
          there j d = get_or-set_other xs i j (Some (key, v)) None d

          kept : (q : K) (j : ℕ) → (j ≡ i) ⊎ (j ≡ i → ⊥) → has_other same q (pair_at xs j) ≡ true
              → has_other same q (pair_at ys j) ≡ true
          kept q j (inl e) o =
              ap (λ x. has_other same q (pair_at ys x)) e
              ∙ (ap (has_other same q) here ∙ alike q (sym (ap (λ x. has_other same q (pair_at xs x)) e) ∙ o))
          kept q j (inr d) o = ap (has_other same q) (there j d) ∙ o

          passed : (j : ℕ) (q : K) (w : V) → (j ≡ i) ⊎ (j ≡ i → ⊥) → j < length xs → pair_at ys j ≡ Some (q, w)
              → PassedTo same hashed q xs j
          passed j q w (inl e) m h =
              let s : ◌≡◌ {A = Option (K × V)} (Some (key, v)) (Some (q, w)) = sym here ∙ (sym (ap (pair_at ys) e) ∙ h) in
              let p : ◌≡◌ {A = K × V} (key, v) (q, w) = cc in
              subst (λ x. PassedTo same hashed x xs j) (ap (λ x. x.0) p) (subst (λ x. PassedTo same hashed key xs x) (sym e) t)
          passed j q w (inr d) m h = probed j q w m (sym (there j d) ∙ h)

          go : Stays (length xs)
          go j q w m h d u =
              let at = visit (length xs) (home (length xs) (hashed q)) d in
              kept q at (cases_eq at i) (passed j q w (cases_eq j i) m h d u)

      pub probed-laid : (v : V) (seek : Seek) (ys : Pairs K V) → ys ≡ laid seek (key, v) xs
          → Sought same key xs seek → FreeFound same hashed key xs seek → Probed same hashed ys
      probed-laid v seek ys e s f = subst (Probed same hashed) (sym e) (go seek s f)
        where
          go : (seek : Seek) → Sought same key xs seek → FreeFound same hashed key xs seek
              → Probed same hashed (laid seek (key, v) xs)
          go (Found i) s f =
              let own = only_pair same refl_same exact xs key i s.1 in
              probed-set v i s.0 (probed i key own.0 s.0 own.1) (λ q o. sym (ap (has_other same q) own.1) ∙ o)
          go (Free i) s f =
              probed-set v i s.0 f (λ q o. absurd (both_ways (has_other same q (pair_at xs i)) (ap (has_other same q) s.1) o))
          go Full s f = probed
