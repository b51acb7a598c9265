-- Bytes begin with at most one number, and are refused for at most one reason: a computed reading answers once.
use Rattle.std.proofs.Common.{◌≡◌, ℕ, zero, suc, ◌+◌, ◌-◌, ◌*◌, ◌/◌, ◌^◌, ◌<◌, ◌≤◌, cond, eqb, ltb, ◌⊎◌, List, [], ◌∷◌, ◌++◌, length, refl, inl, inr, pow-suc, arith}
use Rattle.std.proofs.lemmas.List.{append-nil}
use Rattle.std.proofs.lemmas.Bool.Decides.{nat_tests}
use Rattle.record.specs.declared.fault.ByteFault.{ByteFault}
use Rattle.record.specs.declared.fault.ByteFault.TheVariants.{Short, BadNumber}
use Rattle.record.specs.Numbers.{groups, number_form, GoesOn, NumberRead, NumberRefused}
use Rattle.record.specs.Laws.{NumbersApart}

-- what reading answers: what was read and the bytes after it, or why nothing was
pub data Out (A : Type 0) : Type 0 where
  got : A → List ℕ → Out A
  fault : ByteFault → Out A

-- one reading after another
abbrev pub and_then : {A B : Type 0} → Out A → (A → List ℕ → Out B) → Out B
and_then (got x rest) next = next x rest
and_then (fault f) next = fault f

-- a byte that goes on, in front of the number m: a last byte 0 after it is refused
abbrev above : ℕ → ℕ → List ℕ → Out ℕ
above b m rest = cond (eqb m 0) (fault BadNumber) (got ((b - 128) + m * 128) rest)

-- a number of at most k bytes
abbrev scan : ℕ → List ℕ → Out ℕ
scan zero bs = fault BadNumber
scan (suc k) [] = fault Short
scan (suc k) (b ∷ bs) = cond (ltb b 128) (got b bs) (and_then (scan k bs) (above b))

-- a form is read back
scan_groups : (k n : ℕ) (rest : List ℕ) → n < 128 ^ k → (0 < n) ⊎ (0 < k) → scan k (groups k n ++ rest) ≡ got n rest
scan_groups zero n rest h p = grind arith
scan_groups (suc k) n rest h p = grind (arith, nat_tests, pow-suc 128 k, scan_groups k (n / 128) rest)

-- after bytes that go on, the fault is that of what follows them
scan_on : (k j b : ℕ) (front rest : List ℕ) (f : ByteFault) → k ≡ length front + j → 128 ≤ b → GoesOn front → ((c : ℕ) → and_then (scan j rest) (above c) ≡ fault f) → scan (suc k) (b ∷ (front ++ rest)) ≡ fault f
scan_on k j b [] rest f e h goes ends = grind (arith, nat_tests, ends b)
scan_on zero j b (c ∷ front) rest f e h goes ends = absurd (omega arith)
scan_on (suc k) j b (c ∷ front) rest f e h goes ends = grind (arith, nat_tests, scan_on k j c front rest f (omega arith) goes.0 goes.1 ends)

-- bytes that run out
scan_short : (bs : List ℕ) → GoesOn bs → length bs < 9 → scan 9 bs ≡ fault Short
scan_short [] goes h = refl
scan_short (b ∷ bs) goes h = rw append-nil at (scan_on 8 (suc (7 - length bs)) b bs [] Short (omega arith) goes.0 goes.1 (λ c. refl))

-- a ninth byte that goes on, or a last byte 0 after the first
scan_bad : (front rest : List ℕ) → GoesOn front → (length front ≡ 9) ⊎ ((0 < length front) × (length front < 9) × ((more : List ℕ) × (rest ≡ 0 ∷ more))) → scan 9 (front ++ rest) ≡ fault BadNumber
scan_bad [] rest goes bad = grind arith
scan_bad (b ∷ front) rest goes (inl e) = scan_on 8 0 b front rest BadNumber (omega arith) goes.0 goes.1 (λ c. refl)
scan_bad (b ∷ front) rest goes (inr (some, few, (more, e))) = rw e (scan_on 8 (suc (7 - length front)) b front (0 ∷ more) BadNumber (omega arith) goes.0 goes.1 (λ c. refl))

-- the number that bytes begin with
pub first_number : List ℕ → Out ℕ
first_number bs = scan 9 bs

pub number_got : (bs : List ℕ) (n : ℕ) (rest : List ℕ) → NumberRead bs n rest → first_number bs ≡ got n rest
unfolding number_form first_number
number_got bs n rest (h, e) = rw e (scan_groups 9 n rest h (inr (omega arith)))

pub number_fault : (bs : List ℕ) (f : ByteFault) → NumberRefused bs f → first_number bs ≡ fault f
unfolding first_number
number_fault bs Short (goes, h) = scan_short bs goes h
number_fault bs BadNumber r = rw r.cut (scan_bad r.front r.rest r.goes r.bad)
number_fault bs _ r = absurd r

pub numbers_apart : NumbersApart
numbers_apart m n r s h k e =
    let p : first_number (number_form m ++ r) ≡ got m r = number_got (number_form m ++ r) m r (h, refl) in
    let q : first_number (number_form m ++ r) ≡ got n s = number_got (number_form m ++ r) n s (k, e) in
    (cc, cc)

pub number_not_refused : (bs : List ℕ) (n : ℕ) (rest : List ℕ) (f : ByteFault) → NumberRead bs n rest → NumberRefused bs f → ⊥
number_not_refused bs n rest f r q = cc (number_got bs n rest r, number_fault bs f q)

pub number_one_fault : (bs : List ℕ) (f g : ByteFault) → NumberRefused bs f → NumberRefused bs g → f ≡ g
number_one_fault bs f g p q = cc (number_fault bs f p, number_fault bs g q)
