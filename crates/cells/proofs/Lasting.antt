-- Puts, one after the other: a store holds the keys of those that were taken, each with the value that was put last for it.
use mathlib.Core.List.{reverse_aux}
use Rattle.std.proofs.Math.Seq.{drop-cons}
use Rattle.std.proofs.lemmas.Bool.{cond-true, cond-false, lt-leb}
use Rattle.std.proofs.lemmas.List.{drop_all}
use Rattle.std.proofs.Common.{◌≡◌, ℕ, suc, ◌+◌, ◌<◌, ◌≤◌, refl, sym, ap, ◌∙◌, arith, Bool, true, false, cond, not, ◌&&◌, ◌||◌, List, [], ◌∷◌, length, reverse, get_or, drop, Some, nat_le}
use Rattle.model.specs.Lists.{some_or}
use Rattle.model.specs.Parts.{Keyed, none_held, no_room}
use Rattle.cells.specs.Stores.{after_put}
use Rattle.cells.specs.Puts.{named, keys_named, put_refused, taken_on, puts_taken, last_put, meant_after}

module _ {K V : Type 0} (same : K → K → Bool) (n : ℕ) where
  -- what a store of n records means that took the puts
  abbrev pub meant_of : List (K × V) → Keyed K V
  meant_of past = record { limit = n; count = keys_named same past; find = last_put same past }

  -- the puts with one more, if it is not refused
  abbrev one_more : List (K × V) → K × V → List (K × V)
  one_more past p = cond (put_refused same n past p.0) past (p ∷ past)

  -- a key that some put is for has a value, and no other has
  put_named : {A : Type 0} (f : V → A) (a b : A) → ((v : V) → f v ≡ a) → (past : List (K × V)) (key : K)
      → some_or f b (last_put same past key) ≡ cond (named same past key) a b
  put_named f a b h [] key = refl
  put_named f a b h (p ∷ past) key = go (same p.0 key) (put_named f a b h past key)
    where
      go : (t : Bool) → some_or f b (last_put same past key) ≡ cond (named same past key) a b
          → some_or f b (cond t (Some p.1) (last_put same past key)) ≡ cond (t || named same past key) a b
      go true r = h p.1
      go false r = r

  -- a put is refused where there is no room for its key, and else counts its key if that is new

  pub room_told : (past : List (K × V)) (key : K) → no_room (meant_of past) key ≡ put_refused same n past key
  room_told past key = put_named (λ v. false) false (nat_le n (keys_named same past)) (λ v. refl) past key ∙ go (named same past key)
    where
      go : (t : Bool) → cond t false (nat_le n (keys_named same past)) ≡ (not t && nat_le n (keys_named same past))
      go true = refl
      go false = refl

  count_told : (past : List (K × V)) (p : K × V) → keys_named same past + some_or (λ x. 0) 1 (last_put same past p.0) ≡ keys_named same (p ∷ past)
  count_told past p = ap (λ k. keys_named same past + k) (put_named {A = ℕ} (λ v. 0) 0 1 (λ v. refl) past p.0) ∙ go (named same past p.0)
    where
      go : (t : Bool) → keys_named same past + cond t 0 1 ≡ cond t (keys_named same past) (keys_named same past + 1)
      go true = omega arith
      go false = refl

  pub put_one : (past : List (K × V)) (p : K × V) → after_put same (meant_of past) p.0 p.1 ≡ meant_of (one_more past p)
  put_one past p = go (put_refused same n past p.0) refl
    where
      go : (t : Bool) → put_refused same n past p.0 ≡ t → after_put same (meant_of past) p.0 p.1 ≡ meant_of (one_more past p)
      go true e = cond-true _ _ _ (room_told past p.0 ∙ e) ∙ ap meant_of (sym (cond-true _ past (p ∷ past) e))
      go false e =
          cond-false _ _ _ (room_told past p.0 ∙ e)
          ∙ ap (λ k. record { limit = n; count = k; find = last_put same (p ∷ past) }) (count_told past p)
          ∙ ap meant_of (sym (cond-false _ past (p ∷ past) e))

  module _ (puts : List (K × V)) where
    -- the puts from the i-th on are left to a store that means m
    pub record Left (m : Keyed K V) (i : ℕ) : Type 0 where
      pub past : List (K × V)
      pub means : m ≡ meant_of past
      pub leads : taken_on same n past (drop i puts) ≡ puts_taken same n puts

    pub left-none : (m : Keyed K V) → m ≡ none_held n → Left m 0
    left-none m e = record { past = []; means = e; leads = refl }

    pub left-more : (m m₂ : Keyed K V) (i : ℕ) (p : K × V) → i < length puts → p ≡ get_or puts i p → m₂ ≡ after_put same m p.0 p.1
        → Left m i → Left m₂ (i + 1)
    left-more m m₂ i p l r e w =
        let next : i + 1 ≡ suc i = omega arith in
        let first : drop i puts ≡ p ∷ drop (suc i) puts = drop-cons puts i p l ∙ ap (λ z. z ∷ drop (suc i) puts) (sym r) in
        record {
          past = one_more w.past p;
          means = e ∙ ap (λ z. after_put same z p.0 p.1) w.means ∙ put_one w.past p;
          leads =
              ap (λ j. taken_on same n (one_more w.past p) (drop j puts)) next ∙ sym (ap (taken_on same n w.past) first) ∙ w.leads;
        }

    pub left-all : (m : Keyed K V) (i : ℕ) → length puts ≤ i → Left m i → m ≡ meant_after same n puts
    left-all m i l w =
        w.means ∙ ap meant_of (sym (ap (taken_on same n w.past) (drop_all i puts l)) ∙ w.leads)

  one_named : (past : List (K × V)) (p : K × V) → keys_named same past ≤ keys_named same (p ∷ past)
  one_named past p = go (named same past p.0)
    where
      go : (t : Bool) → keys_named same past ≤ cond t (keys_named same past) (keys_named same past + 1)
      go true = omega arith
      go false = omega arith

  -- earlier puts are for no more keys
  fewer_named : (past ps : List (K × V)) → keys_named same past ≤ keys_named same (reverse_aux ps past)
  fewer_named past [] = omega arith
  fewer_named past (p ∷ ps) = let a = one_named past p in let b = fewer_named (p ∷ past) ps in omega (arith, a, b)

  room_named : (past : List (K × V)) (p : K × V) → keys_named same (p ∷ past) ≤ n → put_refused same n past p.0 ≡ false
  room_named past p l = go (named same past p.0) l
    where
      go : (t : Bool) → cond t (keys_named same past) (keys_named same past + 1) ≤ n → (not t && nat_le n (keys_named same past)) ≡ false
      go true l = refl
      go false l = lt-leb n (keys_named same past) (omega (arith, l))

  all_onto : (past ps : List (K × V)) → keys_named same (reverse_aux ps past) ≤ n → taken_on same n past ps ≡ reverse_aux ps past
  all_onto past [] l = refl
  all_onto past (p ∷ ps) l =
      let r = fewer_named (p ∷ past) ps in
      let free : put_refused same n past p.0 ≡ false = room_named past p (omega (arith, r, l)) in
      ap (λ z. taken_on same n z ps) (cond-false (put_refused same n past p.0) past (p ∷ past) free) ∙ all_onto (p ∷ past) ps l

  -- where there is room for all keys, every put is taken
  pub all_taken : (ps : List (K × V)) → keys_named same (reverse ps) ≤ n → puts_taken same n ps ≡ reverse ps
  all_taken ps l = all_onto [] ps l
