-- A form is a byte and the form of what is left; it is never long.
use Rattle.std.proofs.Common.{◌≡◌, ℕ, zero, suc, ◌+◌, ◌*◌, ◌/◌, ◌%◌, ◌^◌, ◌<◌, ◌≤◌, List, [], ◌∷◌, ◌++◌, length, Option, Some, None, pow-suc, arith, length-append}
use Rattle.std.proofs.lemmas.Bool.Decides.{nat_tests}
use Rattle.std.proofs.lemmas.List.{append-nil}
use Rattle.record.specs.declared.form.FormBytes.{FormBytes}
use Rattle.record.specs.Numbers.{groups, number_form, numbers_form}
use Rattle.record.specs.Forms.{form_of, form_left, NumberTaken}
use Rattle.record.proofs.Groups.{groups_more}

-- one group more than enough adds nothing
groups_enough : (k n : ℕ) → 0 < k → n < 128 ^ k → groups (suc k) n ≡ groups k n
groups_enough zero n p h = absurd (omega arith)
groups_enough (suc zero) n p h = grind (arith, nat_tests)
groups_enough (suc (suc k)) n p h = grind (arith, nat_tests, pow-suc 128 (suc k), groups_enough (suc k) (n / 128) (omega arith))

pub form_last : (n : ℕ) → n < 128 → number_form n ≡ n ∷ []
unfolding number_form
form_last n h = grind (arith, nat_tests)

pub form_more : (n : ℕ) → 128 ≤ n → n < 2 ^ 63 → number_form n ≡ (128 + n % 128) ∷ number_form (n / 128)
unfolding number_form
form_more n h k = cc (groups_more 8 n h, groups_enough 8 (n / 128) (omega arith) (omega arith))

pub groups_length : (k n : ℕ) → length (groups k n) ≤ k
groups_length zero n = omega arith
groups_length (suc k) n = grind (arith, nat_tests, groups_length k (n / 128))

pub form_length : (n : ℕ) → length (number_form n) ≤ 9
unfolding number_form
form_length n = groups_length 9 n

pub forms_length_le : (ns : List ℕ) → length (numbers_form ns) ≤ 9 * length ns
forms_length_le [] = omega arith
forms_length_le (n ∷ ns) = omega (arith, length-append (number_form n) (numbers_form ns), form_length n, forms_length_le ns)

pub form_left_le : (f : FormBytes) → length (form_left f) ≤ 9 + 9 * length f.rest.now
form_left_le f = omega (arith, length-append (form_of f.number) (numbers_form f.rest.now), first f.number, forms_length_le f.rest.now)
  where
    first : (n : Option ℕ) → length (form_of n) ≤ 9
    first None = omega arith
    first (Some n) = form_length n

pub form_some : (n : ℕ) → 0 < length (number_form n)
unfolding number_form
form_some n = grind (arith, nat_tests)

-- a number that is taken is a form of one number, before what is left
pub form_taken : (f h : FormBytes) (n : ℕ) → NumberTaken f (Some n) h → (0 < length (number_form n ++ [])) × (form_left f ≡ (number_form n ++ []) ++ form_left h)
form_taken f h n t = rw (append-nil (number_form n)) (form_some n, grind (arith, t))
