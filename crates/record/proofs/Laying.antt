-- Bytes laid over a buffer one after another.
use Rattle.std.proofs.Common.{◌≡◌, ℕ, ◌+◌, ◌<◌, ◌≤◌, List, [], ◌∷◌, ◌++◌, length, get_or, drop, set, ap, append_assoc, add-zero, add-one, arith, length-append}
use Rattle.std.proofs.lemmas.List.{length-take-le, take_at, drop_at, drop-drop, take-append-drop, set_split, drop_more, drop_all}
use Rattle.std.proofs.lemmas.Grind.{common_steps}
use Rattle.record.specs.Numbers.{number_form, numbers_form}
use Rattle.record.specs.Writes.{laid}

pub laid_none : (buf : List ℕ) (at : ℕ) → laid buf at [] ≡ buf
laid_none buf at = rw add-zero (take-append-drop at buf)

-- one byte is a write to its index
pub laid_one : (buf : List ℕ) (at b : ℕ) → at < length buf → set buf at b ≡ laid buf at (b ∷ [])
laid_one buf at b h = rw add-one (set_split buf at b h)

-- a form laid right after another is both laid at once
pub laid_append : (buf : List ℕ) (at : ℕ) (a b : List ℕ) → at + length a ≤ length buf → laid (laid buf at a) (at + length a) b ≡ laid buf at (a ++ b)
laid_append buf at a b h = grind (arith, take_at {A = ℕ}, drop_at {A = ℕ}, append_assoc {A = ℕ}, drop-drop {A = ℕ}, length-append {A = ℕ}, length-take-le {A = ℕ})

pub laid_length : (buf : List ℕ) (at : ℕ) (bs : List ℕ) → at + length bs ≤ length buf → length (laid buf at bs) ≡ length buf
laid_length buf at bs h = grind (arith, common_steps)

-- one byte, and the rest after it
pub laid_cons : (buf : List ℕ) (at b : ℕ) (bs : List ℕ) → at < length buf → laid (set buf at b) (at + 1) bs ≡ laid buf at (b ∷ bs)
laid_cons buf at b bs h = rw (laid_one buf at b h) (laid_append buf at (b ∷ []) bs (omega arith))

-- the forms from the i-th number on
module _ (ns : List ℕ) (i : ℕ) where
  pub forms_more : i < length ns → numbers_form (drop i ns) ≡ number_form (get_or ns i 0) ++ numbers_form (drop (i + 1) ns)
  forms_more h = ap numbers_form (drop_more ns i 0 h)

  pub forms_length : i < length ns → length (numbers_form (drop i ns)) ≡ length (number_form (get_or ns i 0)) + length (numbers_form (drop (i + 1) ns))
  forms_length h = rw (forms_more h, length-append)

  pub forms_all : length ns ≤ i → numbers_form (drop i ns) ≡ []
  forms_all h = ap numbers_form (drop_all i ns h)
