-- Reading a number byte by byte: what is known before each byte, and what each way out gives.
use Rattle.std.proofs.Common.{◌≡◌, ℕ, suc, ◌+◌, ◌-◌, ◌*◌, ◌%◌, ◌^◌, ◌<◌, ◌≤◌, ◌⊎◌, List, ◌∷◌, ◌++◌, length, get_or, take, drop, sym, refl, ap, ◌∙◌, min, Fits, w8, inl, inr, mul-le-mul_right, pow-suc, add-one, arith, lit<, length-take}
use native.Mathlib.Nat.{pow-le-pow_right}
use Rattle.std.proofs.lemmas.List.{drop_more, length-take-le, take-append-drop, take_all, take_rest, get_or-take}
use Rattle.std.proofs.lemmas.List.Elements.{All-more, All-from_recursion, recursion_from_All}
use Rattle.record.specs.Numbers.{groups, number_form, GoesOn, NumberRead, Misformed, CutOff}
use Rattle.record.proofs.Groups.{groups_last, groups_cons}

-- i bytes are read, and each goes on; whatever number the rest begins with, the whole begins with that number shifted
-- by what was read
pub record SoFar (bytes : List ℕ) (i value weight : ℕ) : Type 0 where
  pub nine : i ≤ 9
  pub weighs : weight ≡ 128 ^ i
  pub below : value < weight
  pub held : i ≤ length bytes
  pub goes : GoesOn (take i bytes)
  pub whole : (m : ℕ) (rest : List ℕ) → (i ≡ 0) ⊎ (0 < m) → drop i bytes ≡ groups (9 - i) m ++ rest → bytes ≡ number_form (value + m * weight) ++ rest

pub so_far_none : (bytes : List ℕ) → SoFar bytes 0 0 1
unfolding number_form
so_far_none bytes = record {
  nine = omega arith;
  weighs = refl;
  below = omega arith;
  held = omega arith;
  goes = tt;
  whole = λ m rest _ e. e ∙ ap (λ (x : ℕ). groups 9 x ++ rest) (omega arith);
}

-- a group and what stands above it, each by its weight
regroup : (value weight c m : ℕ) → value + (c + m * 128) * weight ≡ value + c * weight + m * (weight * 128)
regroup value weight c m = grind arith

-- one more group fits 64 bits
pub group_fits : (i c value weight : ℕ) → i ≤ 8 → c < 128 → value < weight → weight ≡ 128 ^ i → value + c * weight < weight * 128
group_fits i c value weight h k l e = grind (arith, mul-le-mul_right)

-- b is the byte at i, which is one of the first nine
pub record ByteAt (bytes : List ℕ) (i b : ℕ) : Type 0 where
  pub ninth : i < 9
  pub there : i < length bytes
  pub is : b ≡ get_or bytes i 0
  pub fits : b < 256

-- as it is read from the first nine
pub byte_at : (bytes : List ℕ) (i n : ℕ) → n ≡ min 9 (length bytes) → i < length (take n bytes) → Fits w8 (get_or bytes i 0) → ByteAt bytes i (get_or (take n bytes) i 0)
byte_at bytes i n e h f =
    let l : i < n = omega (arith, length-take {A = ℕ}) in
    let r = get_or-take n bytes i 0 l in
    record { ninth = omega arith; there = omega arith; is = r; fits = omega (arith, f) }

module _ (bytes : List ℕ) (i value weight : ℕ) (s : SoFar bytes i value weight) where
  value_below : (c : ℕ) → c < 128 → value + c * weight < weight * 128
  value_below c k = let p : c * weight ≤ 127 * weight = mul-le-mul_right weight (omega arith) in omega (arith, s.below)

  pub weight_fits : i < 9 → weight ≤ 2 ^ 56
  weight_fits h = rw s.weighs (pow-le-pow_right {n = 128} (lit< tt) {i = i} {j = 8} (omega arith))

  pub value_fits : (c : ℕ) → i < 9 → c < 128 → value + c * weight < 2 ^ 63
  value_fits c h k = omega (arith, value_below c k, weight_fits h)

  left_over : i < 9 → 9 - i ≡ suc (9 - (i + 1))
  left_over h = omega arith

  -- the bytes run out
  pub read_short : length bytes < 9 → length bytes ≤ i → CutOff bytes
  read_short h l = (rw (take_all i bytes l) at s.goes, h)

  -- the first i bytes go on, and what follows them is refused
  misformed : (i ≡ 9) ⊎ ((0 < i) × (i < 9) × ((more : List ℕ) × (drop i bytes ≡ 0 ∷ more))) → Misformed bytes
  misformed bad = record {
    front = take i bytes;
    rest = drop i bytes;
    cut = sym (take-append-drop i bytes);
    goes = s.goes;
    bad = rw (length-take-le i bytes s.held) bad;
  }

  -- the ninth byte goes on
  pub read_long : 9 ≤ i → Misformed bytes
  read_long h = let n = s.nine in misformed (inl (omega arith))

  module _ (b : ℕ) (at : ByteAt bytes i b) where
    first : drop i bytes ≡ b ∷ drop (i + 1) bytes
    first = rw at.is (drop_more bytes i 0 at.there)

    -- a byte that goes on, with its group c
    module _ (c : ℕ) (group : c ≡ b % 128) (more : 128 ≤ b) where
      shifted : (m : ℕ) (rest : List ℕ) → 0 < m → drop (i + 1) bytes ≡ groups (9 - (i + 1)) m ++ rest → drop i bytes ≡ groups (9 - i) (c + m * 128) ++ rest
      shifted m rest p e =
          let high : b ≡ 128 + c = omega (arith, at.fits) in
          rw (left_over at.ninth, groups_cons (9 - (i + 1)) c m (omega arith) p, first, high, e)

      pub so_far_more : (w : ℕ) → w ≡ weight * 128 → SoFar bytes (i + 1) (value + c * weight) w
      so_far_more w e = rw e record {
        nine = omega (arith, at.ninth);
        weighs = rw (s.weighs, add-one i) (sym (pow-suc 128 i));
        below = value_below c (omega arith);
        held = omega (arith, at.there);
        goes = recursion_from_All (λ x. 128 ≤ x) _ (All-more (λ x. 128 ≤ x) bytes i 0 at.there (All-from_recursion (λ x. 128 ≤ x) _ s.goes) (rw at.is at more));
        whole = λ m rest p next.
            let some : 0 < m = grind arith in
            rw (← regroup value weight c m) (s.whole (c + m * 128) rest (inr (omega arith)) (shifted m rest some next));
      }

    -- the last byte: the rest is as a slice from the next on is read
    pub read_last : (c : ℕ) → c ≡ b % 128 → b < 128 → (i ≡ 0) ⊎ (0 < b) → NumberRead bytes (value + c * weight) (take (length bytes - (i + 1)) (drop (i + 1) bytes))
    read_last c e l p =
        let low : c ≡ b = omega arith in
        let all : bytes ≡ number_form (value + b * weight) ++ drop (i + 1) bytes = s.whole b (drop (i + 1) bytes) p (rw (left_over at.ninth, groups_last (9 - (i + 1)) b l, first)) in
        (value_fits c at.ninth (omega arith), rw (take_rest, low) all)

    -- a last byte after the first is 0
    pub read_zero : 0 < i → b ≡ 0 → Misformed bytes
    read_zero p e = misformed (inr (p, at.ninth, (drop (i + 1) bytes, rw (first, e))))
