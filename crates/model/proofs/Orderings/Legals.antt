-- Legal orders: what they hold, that the recorded order is one, and two that put an unordered pair side by side.
use Rattle.std.proofs.lemmas.Bool.Decides.{nat_tests}
use Rattle.std.proofs.Common.{◌≡◌, ℕ, ◌<◌, Bool, not, ◌||◌, T, eqb, ◌⊎◌, List, ◌∷◌, ◌++◌, length, sym, subst, inl, inr, arith}
use Rattle.model.specs.Lists.{mem, below, keep}
use Rattle.model.specs.Past.{Past}
use Rattle.model.specs.Before.{before}
use Rattle.model.specs.Legal.{ahead, Legal, Beside}
use Rattle.model.proofs.Shelf.Lists.{mem_tail, keep_in, keep_of, ++_l, ++_r, ++_of}
use Rattle.model.proofs.Shelf.Lists.{below_in, below_of, length_below}
use Rattle.model.proofs.Shelf.Befores.{before_lt, before_in, before_trans, happens_lt}
use Rattle.model.proofs.Orderings.Rows.{Apart, covers_apart, covers_bound, apart_length, apart-++, apart_keep, below_apart, below_ahead}
use Rattle.model.proofs.Orderings.Rows.{ahead_asym, ahead_grow, ahead_head, ahead_keep, ahead-++_l, ahead-++_r, ahead-++_lr}

module _ {C : Type 0} (h : Past C) (o : List ℕ) (legal : Legal h o) where
  -- no place twice, and exactly the places of the past
  pub legal_apart : Apart o
  legal_apart = covers_apart (length h) o legal.whole legal.each

  pub legal_bound : (i : ℕ) → T (mem i o) → i < length h
  legal_bound i t = covers_bound (length h) o legal.whole legal.each i t

  -- of two places one at most is ahead of the other
  pub legal_asym : (i j : ℕ) → T (ahead o i j) → T (ahead o j i) → ⊥
  legal_asym i j s t = ahead_asym o legal_apart i j s t

-- an order is legal that holds exactly the places, each once, and keeps the tested pairs
legal_from : {C : Type 0} (h : Past C) (o : List ℕ) → Apart o → ((i : ℕ) → T (mem i o) → i < length h)
    → ((i : ℕ) → i < length h → T (mem i o)) → ((i j : ℕ) → T (before h i j) → T (ahead o i j)) → Legal h o
legal_from h o a f g k =
    record { whole = apart_length (length h) o a f g; each = g; keeps = λ i j b. k i j (before_in h i j b) }

pub recorded_legal : {C : Type 0} (h : Past C) → Legal h (below (length h))
recorded_legal h =
    record {
      whole = length_below (length h);
      each = λ i q. below_in (length h) i q;
      keeps = λ i j b. (let r = happens_lt h i j b in below_ahead (length h) i j r.0 r.1);
    }

-- two places with what is before either of them ahead, and all else behind
pub record Split {C : Type 0} (h : Past C) (p q : ℕ → Bool) (u v : ℕ) : Type 0 where
  pub low_u : u < length h
  pub low_v : v < length h
  pub two : u ≡ v → ⊥
  pub down : (i j : ℕ) → T (before h i j) → T (p j) → T (p i)
  pub to_u : (i : ℕ) → T (before h i u) → T (p i)
  pub to_v : (i : ℕ) → T (before h i v) → T (p i)
  pub not_u : T (p u) → ⊥
  pub not_v : T (p v) → ⊥
  pub q_in : (i : ℕ) → (T (p i) → ⊥) → (i ≡ u → ⊥) → (i ≡ v → ⊥) → T (q i)
  pub q_p : (i : ℕ) → T (q i) → T (p i) → ⊥
  pub q_u : T (q u) → ⊥
  pub q_v : T (q v) → ⊥

module _ {C : Type 0} (h : Past C) (p q : ℕ → Bool) (u v : ℕ) (s : Split h p q u v) where
  -- how many places there are
  abbrev n : ℕ
  n = length h

  -- what is ahead of the pair
  abbrev soon : List ℕ
  soon = keep p (below n)

  -- what is behind it
  abbrev late : List ℕ
  late = keep q (below n)

  -- the pair and what is ahead of it
  abbrev front : List ℕ
  front = u ∷ v ∷ soon

  soon_of : (i : ℕ) → T (mem i soon) → (i < n) × T (p i)
  soon_of i t = let r = keep_of p (below n) i t in (below_of n i r.0, r.1)

  late_of : (i : ℕ) → T (mem i late) → (i < n) × T (q i)
  late_of i t = let r = keep_of q (below n) i t in (below_of n i r.0, r.1)

  front_of : (i : ℕ) → T (mem i front) → (i ≡ u) ⊎ ((i ≡ v) ⊎ T (mem i soon))
  front_of i t = grind arith

  u_front : (i : ℕ) → i ≡ u → T (mem i front)
  u_front i e = grind arith

  v_front : (i : ℕ) → i ≡ v → T (mem i front)
  v_front i e = grind arith

  soon_front : (i : ℕ) → T (mem i soon) → T (mem i front)
  soon_front i t = grind arith

  front_apart : Apart front
  front_apart = grind (arith, nat_tests, soon_of, apart_keep, below_apart)

  disjoint : (i : ℕ) → T (mem i late) → T (mem i front) → ⊥
  disjoint i a b = grind (arith, nat_tests, late_of, front_of, soon_of)

  bound : (i : ℕ) → T (mem i (late ++ front)) → i < n
  bound i t =
      elim (++_of i late front t) [
        | inl r ↦ (late_of i r).0
        | inr r ↦ elim (front_of i r) [
          | inl e ↦ subst (λ (x : ℕ). x < n) (sym e) s.low_u
          | inr (inl e) ↦ subst (λ (x : ℕ). x < n) (sym e) s.low_v
          | inr (inr w) ↦ (soon_of i w).0
        ]
      ]

  -- where a place stands
  place : (i : ℕ) → i < n → T (mem i soon) ⊎ ((i ≡ u) ⊎ ((i ≡ v) ⊎ T (mem i late)))
  place i l = grind (arith, nat_tests, keep_in, below_in)

  covers : (i : ℕ) → i < n → T (mem i (late ++ front))
  covers i l = grind (arith, nat_tests, place, ++_r, soon_front, u_front, v_front, ++_l)

  keeping : (i j : ℕ) → T (before h i j) → T (ahead (late ++ front) i j)
  keeping i j b =
      let r = before_lt h i j b in
      let li : i < n = omega arith in
      let base : T (ahead (below n) i j) = below_ahead n i j r.0 r.1 in
      let in_p : T (p i) → T (mem i soon) = (λ t. keep_in p (below n) i (below_in n i li) t) in
      elim (place j r.1) [
        | inl t ↦
            (let pj = (soon_of j t).1 in
            ahead-++_r late front i j
            (ahead_grow u (v ∷ soon) i j (ahead_grow v soon i j (ahead_keep p (below n) i j (s.down i j b pj) pj base))))
        | inr (inl e) ↦
            (let pi : T (p i) = s.to_u i (subst (λ (x : ℕ). T (before h i x)) e b) in
            subst (λ (x : ℕ). T (ahead (late ++ front) i x)) (sym e)
            (ahead-++_r late front i u (ahead_head u (v ∷ soon) i (mem_tail i v soon (in_p pi)))))
        | inr (inr (inl e)) ↦
            (let pi : T (p i) = s.to_v i (subst (λ (x : ℕ). T (before h i x)) e b) in
            subst (λ (x : ℕ). T (ahead (late ++ front) i x)) (sym e)
            (ahead-++_r late front i v (ahead_grow u (v ∷ soon) i v (ahead_head v soon i (in_p pi)))))
        | inr (inr (inr t)) ↦
            (let qj = (late_of j t).1 in
            elim (place i li) [
              | inl w ↦ ahead-++_lr late front i j (soon_front i w) t
              | inr (inl w) ↦ ahead-++_lr late front i j (u_front i w) t
              | inr (inr (inl w)) ↦ ahead-++_lr late front i j (v_front i w) t
              | inr (inr (inr w)) ↦ ahead-++_l late front i j (ahead_keep q (below n) i j (late_of i w).1 qj base)
            ])
      ]

  split_legal : Legal h (keep q (below (length h)) ++ (u ∷ v ∷ keep p (below (length h))))
  split_legal =
      legal_from h (late ++ front) (apart-++ late front (apart_keep q (below n) (below_apart n)) front_apart disjoint) bound covers keeping

-- two places that are unordered can stand side by side, either way round
module _ {C : Type 0} (h : Past C) (a b : ℕ) (low_a : a < length h) (low_b : b < length h) (two : a ≡ b → ⊥)
    (not_ab : T (before h a b) → ⊥) (not_ba : T (before h b a) → ⊥) where
  -- a place that is before one of them
  abbrev sooner_test : ℕ → Bool
  sooner_test i = before h i a || before h i b

  -- a place that is neither of them, nor before one
  abbrev later_test : ℕ → Bool
  later_test i = not (sooner_test i || (eqb i a || eqb i b))

  sooner_of : (i : ℕ) → T (sooner_test i) → T (before h i a) ⊎ T (before h i b)
  sooner_of i t = grind arith

  sooner_a : (i : ℕ) → T (before h i a) → T (sooner_test i)
  sooner_a i t = grind arith

  sooner_b : (i : ℕ) → T (before h i b) → T (sooner_test i)
  sooner_b i t = grind arith

  before_irr : (i : ℕ) → T (before h i i) → ⊥
  before_irr i t = let r = before_lt h i i t in omega arith

  sooner_down : (i j : ℕ) → T (before h i j) → T (sooner_test j) → T (sooner_test i)
  sooner_down i j s t = grind (arith, nat_tests, before_trans, sooner_b)

  not_sooner_a : T (sooner_test a) → ⊥
  not_sooner_a t = elim (sooner_of a t) [ inl r ↦ before_irr a r | inr r ↦ not_ab r ]

  not_sooner_b : T (sooner_test b) → ⊥
  not_sooner_b t = elim (sooner_of b t) [ inl r ↦ not_ba r | inr r ↦ before_irr b r ]

  later_in : (i : ℕ) → (T (sooner_test i) → ⊥) → (i ≡ a → ⊥) → (i ≡ b → ⊥) → T (later_test i)
  later_in i f g k = grind arith

  later_sooner : (i : ℕ) → T (later_test i) → T (sooner_test i) → ⊥
  later_sooner i t r = grind arith

  later_a : T (later_test a) → ⊥
  later_a t = grind arith

  later_b : T (later_test b) → ⊥
  later_b t = grind arith

  pub beside : Beside h a b
  beside =
      record {
        later = keep later_test (below (length h));
        sooner = keep sooner_test (below (length h));
        one_way = split_legal h sooner_test later_test b a
            (record {
              low_u = low_b;
              low_v = low_a;
              two = λ e. two (sym e);
              down = sooner_down;
              to_u = sooner_b;
              to_v = sooner_a;
              not_u = not_sooner_b;
              not_v = not_sooner_a;
              q_in = λ i f g k. later_in i f k g;
              q_p = later_sooner;
              q_u = later_b;
              q_v = later_a;
            });
        other_way = split_legal h sooner_test later_test a b
            (record {
              low_u = low_a;
              low_v = low_b;
              two = two;
              down = sooner_down;
              to_u = sooner_a;
              to_v = sooner_b;
              not_u = not_sooner_a;
              not_v = not_sooner_b;
              q_in = later_in;
              q_p = later_sooner;
              q_u = later_a;
              q_v = later_b;
            });
      }
