-- Where the heading is not stripped: the bytes are its front, or the two part at a byte that both have.
use Rattle.std.proofs.Common.{◌≡◌, ◌≢◌, ℕ, suc, ◌<◌, Bool, true, false, nat_eq, List, [], ◌∷◌, ◌++◌, length, take, drop, get_or, None, refl, sym, ◌∙◌, inl, inr, append-nil, arith}
use Rattle.std.specs.Cmp.Lexicographic.{pointwise}
use Rattle.std.proofs.lemmas.Bool.{false≢true}
use Rattle.std.proofs.lemmas.Bool.Decides.{Decides-eqb, eqb_tells}
use Rattle.std.proofs.lemmas.Slice.Eq.{strip_prefix_is, starts_is}
use Rattle.record.specs.Heading.{heading, WrongByte, ShortHeading}

-- where two lists first differ
record Parted (xs ys : List ℕ) : Type 0 where
  at : ℕ
  within : at < length ys
  there : at < length xs
  wrong : get_or xs at 0 ≢ get_or ys at 0

-- of two lists of which neither begins the other
parted : (xs ys : List ℕ) → ((r : List ℕ) → xs ≢ ys ++ r) → ((r : List ℕ) → ys ≢ xs ++ r) → Parted xs ys
parted [] ys p q = absurd (q ys refl)
parted (x ∷ xs) [] p q = absurd (p (x ∷ xs) refl)
parted (x ∷ xs) (y ∷ ys) p q = elim (eqb_tells x y) [
  | inl e ↦ let d = parted xs ys (λ r h. p r cc) (λ r h. q r cc) in record { at = suc d.at; within = omega (arith, d.within); there = omega (arith, d.there); wrong = d.wrong }
  | inr e ↦ record { at = 0; within = omega arith; there = omega arith; wrong = e.1 }
]

-- the bytes end inside the heading
short : (bytes : List ℕ) → ((r : List ℕ) → bytes ≢ heading ++ r) → heading ≡ bytes ++ drop (length bytes) heading → ShortHeading bytes
short bytes p e = record { missing = drop (length bytes) heading; front = e; some = go (drop (length bytes) heading) e }
  where
    go : (m : List ℕ) → heading ≡ bytes ++ m → 0 < length m
    go [] h = absurd (p [] (rw append-nil at (sym h)))
    go (x ∷ m) h = omega arith

-- what the two tests of the code tell
module _ (bytes : List ℕ) (stripped : pointwise nat_eq (take (length heading) bytes) heading ≡ false) (front : Bool) (tested : front ≡ pointwise nat_eq bytes (take (length bytes) heading)) where
  not_there : (r : List ℕ) → bytes ≢ heading ++ r
  not_there = strip_prefix_is Decides-eqb bytes heading None stripped

  pub heading_short : front ≡ true → ShortHeading bytes
  heading_short t = short bytes not_there ((starts_is Decides-eqb heading bytes front tested).0 t)

  pub heading_wrong : front ≡ false → WrongByte bytes
  heading_wrong f =
      let d = parted bytes heading not_there (λ r e. false≢true (sym f ∙ (starts_is Decides-eqb heading bytes front tested).1 r e)) in
      record { at = d.at; within = d.within; there = d.there; wrong = d.wrong }
