-- A put keeps a search tree grown: a slot is given its own key again, the root its first, or a leaf hangs where a walk fell off.
use Rattle.std.proofs.Common.{◌≡◌, ℕ, suc, ◌+◌, ◌<◌, ◌≤◌, Bool, true, cond, T, List, length, map, get_or, set, replicate, Some, None, Option, is_some, nat_lt, refl, sym, ap, ◌∙◌, subst, ◌⊎◌, inl, inr, arith}
use Rattle.std.specs.Ordering.{is_eq}
use Rattle.std.specs.declared.cmp.Ordering.{Ordering}
use Rattle.std.proofs.lemmas.Bool.{cases_eq, cases_lt, eq-eqb, lt-ltb, le-ltb}
use Rattle.std.proofs.lemmas.List.{get_or-set_same, get_or-set_other, length-set}
use Rattle.cells.specs.declared.node.Links.{Links}
use Rattle.cells.specs.declared.node.Side.{Side}
use Rattle.cells.specs.declared.node.Side.TheVariants.{Left, Right}
use Rattle.cells.specs.declared.node.TreeNode.{TreeNode}
use Rattle.cells.specs.declared.nodes.Stop.TheVariants.{At, Off}
use Rattle.model.specs.Parts.{none_held}
use Rattle.cells.specs.Slots.{Pairs, pair_at, used_in, keyed_in}
use Rattle.cells.specs.Records.{no_links}
use Rattle.cells.specs.Walks.{link_to, with_link, link_at, hung, side_of, is_at, walk, walk_for, Grown}
use Rattle.cells.proofs.Meant.{pair_at-blank, pairs-blank, used_in-blank, keyed_in-blank}
use Rattle.cells.proofs.Walking.{step_at, step_off, step_on, way, stays, falls, goes, used_fits, is_used, side_used, rises, told_off, some_slot, at_from}
use Rattle.cells.proofs.Ending.{own_side, end_key, sought_root}

-- slots where each key hangs on the side where it hung have the walks that they had
walk_same : {K V : Type 0} (cmp : K → K → Ordering) (xs ys : Pairs K V) (ls : List Links) (key : K)
    → ((j : ℕ) → side_of cmp key (pair_at ys j) ≡ side_of cmp key (pair_at xs j))
    → (f i : ℕ) → walk cmp ys ls f key i ≡ walk cmp xs ls f key i
walk_same cmp xs ys ls key e ℕ.zero i = refl
walk_same cmp xs ys ls key e (suc f) i = elim (way cmp xs ls key i) [
  | stays n ↦ step_at cmp ys ls key f i (e i ∙ n) ∙ sym (step_at cmp xs ls key f i n)
  | falls s n z ↦ step_off cmp ys ls key f i s (e i ∙ n) z ∙ sym (step_off cmp xs ls key f i s n z)
  | goes s n p ↦
      step_on cmp ys ls key f i s (e i ∙ n) p
      ∙ (walk_same cmp xs ys ls key e f (link_at ls i s)
      ∙ sym (step_on cmp xs ls key f i s n p))
]

-- a link of a node of which one is changed
link_with : (t s : Side) (n : ℕ) (l : Links)
    → (link_to s (with_link t n l) ≡ link_to s l) ⊎ ((s ≡ t) × (link_to s (with_link t n l) ≡ n))
link_with Left Left n l = inr (refl, refl)
link_with Left Right n l = inl refl
link_with Right Left n l = inl refl
link_with Right Right n l = inr (refl, refl)

link_same : (t : Side) (n : ℕ) (l : Links) → link_to t (with_link t n l) ≡ n
link_same Left n l = refl
link_same Right n l = refl

link_none : (s : Side) → link_to s no_links ≡ 0
link_none Left = refl
link_none Right = refl

module _ (ls : List Links) (n i : ℕ) (t : Side) (li : i < n) (ln : n < length ls) (free : link_at ls i t ≡ 0) where
  hung_node : get_or (hung ls n i t) i no_links ≡ with_link t n (get_or ls i no_links)
  hung_node =
      let e = length-set ls n no_links in
      get_or-set_same (set ls n no_links) i (with_link t n (get_or ls i no_links)) no_links (omega arith)

  pub hung_here : link_at (hung ls n i t) i t ≡ n
  hung_here = ap (link_to t) hung_node ∙ link_same t n (get_or ls i no_links)

  -- a link of the slot j when the leaf hangs
  pub data Hung (j : ℕ) (s : Side) : Type 0 where
    old : (j ≡ n → ⊥) → link_at (hung ls n i t) j s ≡ link_at ls j s → Hung j s
    new : j ≡ i → link_at ls j s ≡ 0 → link_at (hung ls n i t) j s ≡ n → Hung j s
    leaf : j ≡ n → link_at (hung ls n i t) j s ≡ 0 → Hung j s

  pub hung_at : (j : ℕ) (s : Side) → Hung j s
  hung_at j s = elim (cases_eq j i) [
    | inl e ↦ subst (λ x. Hung x s) (sym e) here
    | inr d ↦ elim (cases_eq j n) [
      | inl e ↦ leaf e
          (ap (link_to s) (other d
          ∙ (ap (λ x. get_or (set ls n no_links) x no_links) e ∙ get_or-set_same ls n no_links no_links ln)) ∙ link_none s)
      | inr c ↦ old c (ap (link_to s) (other d ∙ get_or-set_other ls n j no_links no_links c))
    ]
  ]
    where
      other : (j ≡ i → ⊥) → get_or (hung ls n i t) j no_links ≡ get_or (set ls n no_links) j no_links
      other d = get_or-set_other (set ls n no_links) i j (with_link t n (get_or ls i no_links)) no_links d

      here : Hung i s
      here = elim (link_with t s n (get_or ls i no_links)) [
        | inl e ↦ old (λ q. omega arith) (ap (link_to s) hung_node ∙ e)
        | inr e ↦ new refl (ap (link_at ls i) e.0 ∙ free) (ap (link_to s) hung_node ∙ e.1)
      ]

module _ {K V : Type 0} (cmp : K → K → Ordering) (same : K → K → Bool) (matches : (a b : K) → same a b ≡ is_eq (cmp a b))
    (refl_same : (a : K) → same a a ≡ true) (exact : (a b : K) → T (same a b) → a ≡ b)
    (xs : Pairs K V) (ls : List Links) (used : ℕ) (g : Grown cmp xs ls used) (key : K) (v : V) where
  own : side_of cmp key (Some (key, v)) ≡ None
  own = own_side cmp same matches refl_same exact key v

  -- ---- the slot where the walk ends

  grown_again : (i : ℕ) (p : K × V) → walk_for cmp xs ls key ≡ Some (At i) → pair_at xs i ≡ Some p
      → Grown cmp (set xs i (Some (key, v))) ls used
  grown_again i p w q = record {
    filled = λ j. elim (cases_eq j i) [
      | inl e ↦ ap is_some (at j e) ∙ (sym (ap is_some q) ∙ (ap (λ x. is_some (pair_at xs x)) (sym e) ∙ g.filled j))
      | inr d ↦ ap is_some (off j d) ∙ g.filled j
    ];
    rising = g.rising;
    routed = λ j r h. elim (cases_eq j i) [
      | inl e ↦ (
          let z : Some (key, v) ≡ Some r = sym (at j e) ∙ h in
          let y : key ≡ r.0 = cc in
          ap (λ x. is_at (walk_for cmp (set xs i (Some (key, v))) ls x) j) (sym y)
          ∙ (ap (λ o. is_at o j) (walks key ∙ w) ∙ eq-eqb i j (sym e)))
      | inr d ↦ ap (λ o. is_at o j) (walks r.0) ∙ g.routed j r (sym (off j d) ∙ h)
    ];
  }
    where
      li : i < length xs
      li = let u = used_fits cmp xs ls used g in let l = is_used cmp xs ls used g i p q in omega arith

      at : (j : ℕ) → j ≡ i → pair_at (set xs i (Some (key, v))) j ≡ Some (key, v)
      at j e = ap (pair_at (set xs i (Some (key, v)))) e ∙ get_or-set_same xs i (Some (key, v)) None li

      off : (j : ℕ) → (j ≡ i → ⊥) → pair_at (set xs i (Some (key, v))) j ≡ pair_at xs j
      off j d = get_or-set_other xs i j (Some (key, v)) None d

      sides : (k : K) (j : ℕ) → side_of cmp k (pair_at (set xs i (Some (key, v))) j) ≡ side_of cmp k (pair_at xs j)
      sides k j = elim (cases_eq j i) [
        | inl e ↦ (
            let y : p.0 ≡ key = end_key cmp same matches refl_same exact xs ls used g key i p w q in
            ap (side_of cmp k) (at j e)
            ∙ (ap (λ x. side_of cmp k (Some (x, v))) (sym y)
            ∙ (ap (side_of cmp k) (sym q) ∙ ap (λ x. side_of cmp k (pair_at xs x)) (sym e))))
        | inr d ↦ ap (side_of cmp k) (off j d)
      ]

      walks : (k : K) → walk_for cmp (set xs i (Some (key, v))) ls k ≡ walk_for cmp xs ls k
      walks k =
          ap (λ f. walk cmp (set xs i (Some (key, v))) ls f k 0) (length-set xs i (Some (key, v)))
          ∙ walk_same cmp xs (set xs i (Some (key, v))) ls k (sides k) (length xs) 0

  -- the root, when nothing is held
  grown_root : (i : ℕ) → i ≡ 0 → used ≡ 0 → 0 < length xs → Grown cmp (set xs i (Some (key, v))) ls (used + 1)
  grown_root i z n l = record {
    filled = λ j. elim (cases_eq j i) [
      | inl e ↦ ap is_some (at j e) ∙ sym (lt-ltb j (used + 1) (omega arith))
      | inr d ↦ ap is_some (off j d) ∙ (g.filled j ∙ (le-ltb j used (omega arith) ∙ sym (le-ltb j (used + 1) (omega arith))))
    ];
    rising = λ j s p. let r = g.rising j s p in (r.0, omega arith);
    routed = λ j r h. elim (cases_eq j i) [
      | inl e ↦ (
          let y : Some (key, v) ≡ Some r = sym (at j e) ∙ h in
          let x : key ≡ r.0 = cc in
          ap (λ k. is_at (walk_for cmp (set xs i (Some (key, v))) ls k) j) (sym x)
          ∙ (ap (λ o. is_at o j) first ∙ eq-eqb 0 j (omega arith)))
      | inr d ↦ (let u = is_used cmp xs ls used g j r (sym (off j d) ∙ h) in absurd (omega arith))
    ];
  }
    where
      at : (j : ℕ) → j ≡ i → pair_at (set xs i (Some (key, v))) j ≡ Some (key, v)
      at j e = ap (pair_at (set xs i (Some (key, v)))) e ∙ get_or-set_same xs i (Some (key, v)) None (omega arith)

      off : (j : ℕ) → (j ≡ i → ⊥) → pair_at (set xs i (Some (key, v))) j ≡ pair_at xs j
      off j d = get_or-set_other xs i j (Some (key, v)) None d

      first : walk_for cmp (set xs i (Some (key, v))) ls key ≡ Some (At 0)
      first = go (length (set xs i (Some (key, v)))) (length-set xs i (Some (key, v)))
        where
          go : (f : ℕ) → f ≡ length xs → walk cmp (set xs i (Some (key, v))) ls f key 0 ≡ Some (At 0)
          go ℕ.zero e = absurd (omega arith)
          go (suc f) e = step_at cmp (set xs i (Some (key, v))) ls key f 0 (ap (side_of cmp key) (at 0 (sym z)) ∙ own)

  pub grown_at : (i : ℕ) → walk_for cmp xs ls key ≡ Some (At i)
      → Grown cmp (set xs i (Some (key, v))) ls (cond (is_some (pair_at xs i)) used (used + 1))
  grown_at i w = go (pair_at xs i) refl
    where
      go : (o : Option (K × V)) → pair_at xs i ≡ o
          → Grown cmp (set xs i (Some (key, v))) ls (cond (is_some (pair_at xs i)) used (used + 1))
      go None q =
          let r = sought_root cmp same matches refl_same exact xs ls used g key i w q in
          subst (λ o. Grown cmp (set xs i (Some (key, v))) ls (cond (is_some o) used (used + 1))) (sym q)
          (grown_root i r.0 r.1 (some_slot cmp xs ls key (At i) w))
      go (Some p) q =
          subst (λ o. Grown cmp (set xs i (Some (key, v))) ls (cond (is_some o) used (used + 1))) (sym q) (grown_again i p w q)

  -- ---- a leaf

  module _ (i : ℕ) (t : Side) (w : walk_for cmp xs ls key ≡ Some (Off i t))
      (room : used < length xs) (sized : length ls ≡ length xs) where
    abbrev ys : Pairs K V
    ys = set xs used (Some (key, v))

    abbrev ms : List Links
    ms = hung ls used i t

    li : i < used
    li = side_used cmp xs ls used g key i t (told_off cmp xs ls used g key i t (some_slot cmp xs ls key (Off i t) w) w).0

    free : link_at ls i t ≡ 0
    free = (told_off cmp xs ls used g key i t (some_slot cmp xs ls key (Off i t) w) w).1

    way_of : (j : ℕ) (s : Side) → Hung ls used i t li (omega arith) free j s
    way_of j s = hung_at ls used i t li (omega arith) free j s

    at : (j : ℕ) → j ≡ used → pair_at ys j ≡ Some (key, v)
    at j e = ap (pair_at ys) e ∙ get_or-set_same xs used (Some (key, v)) None room

    off : (j : ℕ) → (j ≡ used → ⊥) → pair_at ys j ≡ pair_at xs j
    off j d = get_or-set_other xs used j (Some (key, v)) None d

    side_off : (k : K) (j : ℕ) → j < used → side_of cmp k (pair_at ys j) ≡ side_of cmp k (pair_at xs j)
    side_off k j l = ap (side_of cmp k) (off j (λ e. omega arith))

    -- a link that leads on leads where it led
    kept : (j : ℕ) (s : Side) → j < used → 0 < link_at ls j s → link_at ms j s ≡ link_at ls j s
    kept j s l p = elim (way_of j s) [
      | old d e ↦ e
      | new e z n ↦ absurd (omega arith)
      | leaf e z ↦ absurd (omega arith)
    ]

    -- a walk that ended at a slot ends there
    walk_kept : (k : K) (f x j : ℕ) → x < used → walk cmp xs ls f k x ≡ Some (At j) → walk cmp ys ms f k x ≡ Some (At j)
    walk_kept k ℕ.zero x j l h = cc
    walk_kept k (suc f) x j l h = elim (way cmp xs ls k x) [
      | stays n ↦ step_at cmp ys ms k f x (side_off k x l ∙ n) ∙ (sym (step_at cmp xs ls k f x n) ∙ h)
      | falls s n z ↦ (let y : Some (Off x s) ≡ Some (At j) = sym (step_off cmp xs ls k f x s n z) ∙ h in cc)
      | goes s n p ↦ (
          let r = rises cmp xs ls used g x s l p in
          let e = kept x s l p in
          step_on cmp ys ms k f x s (side_off k x l ∙ n) (omega arith)
          ∙ (ap (walk cmp ys ms f k) e
          ∙ walk_kept k f (link_at ls x s) j r.1 (sym (step_on cmp xs ls k f x s n p) ∙ h)))
    ]

    last : (f : ℕ) → 0 < f → walk cmp ys ms f key used ≡ Some (At used)
    last ℕ.zero l = absurd (omega arith)
    last (suc f) l = step_at cmp ys ms key f used (ap (side_of cmp key) (at used refl) ∙ own)

    -- the walk that fell off goes on to the leaf
    walk_new : (f x : ℕ) → x < used → length xs ≤ x + f → walk cmp xs ls f key x ≡ Some (Off i t)
        → walk cmp ys ms f key x ≡ Some (At used)
    walk_new ℕ.zero x l e h = cc
    walk_new (suc f) x l e h = elim (way cmp xs ls key x) [
      | stays n ↦ (let y : Some (At x) ≡ Some (Off i t) = sym (step_at cmp xs ls key f x n) ∙ h in cc)
      | falls s n z ↦ (
          let y : Some (Off x s) ≡ Some (Off i t) = sym (step_off cmp xs ls key f x s n z) ∙ h in
          let c : x ≡ i = cc in
          let d : s ≡ t = cc in
          let to : link_at ms x s ≡ used = ap (λ a. link_at ms a s) c
          ∙ (ap (link_at ms i) d ∙ hung_here ls used i t li (omega arith) free) in
          step_on cmp ys ms key f x s (side_off key x l ∙ n) (omega arith)
          ∙ (ap (walk cmp ys ms f key) to ∙ last f (omega arith)))
      | goes s n p ↦ (
          let r = rises cmp xs ls used g x s l p in
          let c = kept x s l p in
          step_on cmp ys ms key f x s (side_off key x l ∙ n) (omega arith)
          ∙ (ap (walk cmp ys ms f key) c
          ∙ walk_new f (link_at ls x s) r.1 (omega arith) (sym (step_on cmp xs ls key f x s n p) ∙ h)))
    ]

    pub grown_off : Grown cmp ys ms (used + 1)
    grown_off = record {
      filled = λ j. elim (cases_eq j used) [
        | inl e ↦ ap is_some (at j e) ∙ sym (lt-ltb j (used + 1) (omega arith))
        | inr d ↦ ap is_some (off j d) ∙ (g.filled j ∙ below j d)
      ];
      rising = λ j s p. elim (way_of j s) [
        | old d e ↦ (let r = g.rising j s (omega arith) in (omega arith, omega arith))
        | new e z n ↦ (let l = li in (omega arith, omega arith))
        | leaf e z ↦ absurd (omega arith)
      ];
      routed = λ j r h. elim (cases_eq j used) [
        | inl e ↦ (
            let y : Some (key, v) ≡ Some r = sym (at j e) ∙ h in
            let x : key ≡ r.0 = cc in
            ap (λ k. is_at (walk_for cmp ys ms k) j) (sym x)
            ∙ (ap (λ o. is_at o j) (walks key used
            (λ f q. walk_new f 0 (let l = li in omega arith) (omega arith) (ap (λ a. walk cmp xs ls a key 0) q ∙ w)))
            ∙ eq-eqb used j (sym e)))
        | inr d ↦ (
            let h : pair_at xs j ≡ Some r = sym (off j d) ∙ h in
            ap (λ o. is_at o j) (walks r.0 j (λ f q. walk_kept r.0 f 0 j (let l = li in omega arith)
            (ap (λ a. walk cmp xs ls a r.0 0) q ∙ at_from (walk_for cmp xs ls r.0) j (g.routed j r h))))
            ∙ eq-eqb j j refl)
      ];
    }
      where
        below : (j : ℕ) → (j ≡ used → ⊥) → nat_lt j used ≡ nat_lt j (used + 1)
        below j d = elim (cases_lt j used) [
          | inl l ↦ lt-ltb j used l ∙ sym (lt-ltb j (used + 1) (omega arith))
          | inr l ↦ le-ltb j used l ∙ sym (le-ltb j (used + 1) (omega arith))
        ]

        walks : (k : K) (j : ℕ) → ((f : ℕ) → f ≡ length xs → walk cmp ys ms f k 0 ≡ Some (At j))
            → walk_for cmp ys ms k ≡ Some (At j)
        walks k j h = h (length ys) (length-set xs used (Some (key, v)))

-- the same, told of equal slots
pub grown_as : {K V : Type 0} (cmp : K → K → Ordering) {xs ys : Pairs K V} {ls ms : List Links} {n m : ℕ}
    → ys ≡ xs → ms ≡ ls → m ≡ n → Grown cmp xs ls n → Grown cmp ys ms m
grown_as cmp {xs} {ys} {ls} {ms} {n} {m} a b c g =
    subst (λ x. Grown cmp x ms m) (sym a) (subst (λ x. Grown cmp xs x m) (sym b) (subst (Grown cmp xs ls) (sym c) g))

-- nothing is held yet

links_bare : {R : Type 0} (b : TreeNode R) → b.links ≡ no_links → (n j : ℕ) → get_or (map (λ n. n.links) (replicate n b)) j no_links ≡ no_links
links_bare b e ℕ.zero j = refl
links_bare b e (suc n) ℕ.zero = e
links_bare b e (suc n) (suc j) = links_bare b e n j

grown_bare : {K V : Type 0} (cmp : K → K → Ordering) (n : ℕ) (ls : List Links) → ((j : ℕ) (s : Side) → link_at ls j s ≡ 0)
    → Grown {V = V} cmp (replicate n None) ls 0
grown_bare {V} cmp n ls bare = record {
  filled = λ j. ap is_some (pair_at-blank n j) ∙ sym (le-ltb j 0 (omega arith));
  rising = λ j s p. let e = bare j s in absurd (omega arith);
  routed = λ j p e. let z : None ≡ Some p = sym (pair_at-blank n j) ∙ e in cc;
}

-- nodes that are blank, none of them used
module _ {R K V : Type 0} (held : R → Option (K × V)) (b : TreeNode R) (free : held b.record ≡ None) (bare : b.links ≡ no_links)
    (n : ℕ) (ns : List (TreeNode R)) (blank : ns ≡ replicate n b) where
  pairs : map (λ n. held n.record) ns ≡ replicate n None
  pairs = pairs-blank (λ n. held n.record) b free n ns blank

  pub counted_blank : (used : ℕ) → used ≡ 0 → used ≡ used_in (map (λ n. held n.record) ns)
  counted_blank used e = e ∙ sym (ap used_in pairs ∙ used_in-blank (K × V) n)

  pub grown_blank : (cmp : K → K → Ordering) (used : ℕ) → used ≡ 0
      → Grown cmp (map (λ n. held n.record) ns) (map (λ n. n.links) ns) used
  grown_blank cmp used e =
      grown_as cmp pairs (ap (map (λ n. n.links)) blank) e
      (grown_bare cmp n (map (λ n. n.links) (replicate n b)) (λ j s. ap (link_to s) (links_bare b bare n j) ∙ link_none s))

  pub keyed_blank : (same : K → K → Bool) → keyed_in same (map (λ n. held n.record) ns) ≡ none_held n
  keyed_blank same = ap (keyed_in same) pairs ∙ keyed_in-blank same n
