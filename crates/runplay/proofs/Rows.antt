-- Items that are written in a row: those so far, and one more.
use Rattle.std.proofs.Common.{◌≡◌, ℕ, ◌+◌, ◌<◌, List, [], ◌∷◌, ◌++◌, length, take, get_or, Option, Some, None, Result, Ok, refl, sym, ap, subst, ◌∙◌, zero-add, add-zero, arith}
use Rattle.std.proofs.lemmas.List.{append-nil, take_more, length-take-le}
use Rattle.std.specs.Fmt.{DisplaysOnOk, option_append}
use Rattle.std.specs.declared.fmt.Error.{Error}
use Rattle.std.specs.declared.fmt.Formatter.{Formatter}
use Rattle.std.proofs.Output.{then_text_assoc, displays_on_IsOk_append, displays_on_ok_of_eq}
use Rattle.runplay.specs.Logs.{lead_at, row_from, row_shown}

-- nothing is added by an empty text, behind or ahead

text_nil : (o : Option (List ℕ)) → option_append o (Some []) ≡ o
text_nil None = refl
text_nil (Some a) = ap Some (append-nil a)

nil_text : (o : Option (List ℕ)) → option_append (Some []) o ≡ o
nil_text None = refl
nil_text (Some a) = refl

module _ {X : Type 0} (text : X → Option (List ℕ)) (between : List ℕ) where
  -- an item with what stands ahead of it
  abbrev item_at : ℕ → X → Option (List ℕ)
  item_at p x = option_append (Some (lead_at p between)) (text x)

  -- an item at the end of a row
  row_end : (p : ℕ) (xs : List X) (x : X)
      → row_from text between p (xs ++ (x ∷ [])) ≡ option_append (row_from text between p xs) (item_at (p + length xs) x)
  row_end p [] x =
      text_nil (item_at p x) ∙ ap (λ q. item_at q x) (sym (add-zero p)) ∙ sym (nil_text (item_at (p + 0) x))
  row_end p (y ∷ ys) x =
      let e : p + 1 + length ys ≡ p + length (y ∷ ys) = omega arith in
      ap (option_append (item_at p y)) (row_end (p + 1) ys x)
      ∙ sym (then_text_assoc (item_at p y) (row_from text between (p + 1) ys) (item_at (p + 1 + length ys) x))
      ∙ ap (λ q. option_append (row_from text between p (y ∷ ys)) (item_at q x)) e

  -- one more item of those that are there
  pub row_more : (i : ℕ) (xs : List X) (d : X) → i < length xs
      → row_shown text between (take (i + 1) xs) ≡ option_append (row_shown text between (take i xs)) (item_at i (get_or xs i d))
  row_more i xs d h =
      let n : length (take i xs) ≡ i = length-take-le i xs (omega arith) in
      ap (row_shown text between) (take_more xs i d h) ∙ row_end 0 (take i xs) (get_or xs i d)
      ∙ ap (λ q. option_append (row_shown text between (take i xs)) (item_at q (get_or xs i d))) (zero-add (length (take i xs)) ∙ n)

  -- the items so far are written, and then one more
  pub row_written : {W : Type 0} (took : W → List ℕ → W → Type 0) (f g h : Formatter W) (r : Result (Unit {0}) Error) (i : ℕ) (xs : List X) (d : X)
      (lead : List ℕ) → i < length xs → lead ≡ lead_at i between → r ≡ Ok tt → DisplaysOnOk took f (Ok tt) (row_shown text between (take i xs)) g
      → DisplaysOnOk took g r (option_append (Some lead) (text (get_or xs i d))) h
      → DisplaysOnOk took f (Ok tt) (row_shown text between (take (i + 1) xs)) h
  row_written took f g h r i xs d lead l e ok so more =
      let x = get_or xs i d in
      let one : DisplaysOnOk took g (Ok tt) (item_at i x) h =
      subst (λ q. DisplaysOnOk took g q (item_at i x) h) ok (subst (λ q. DisplaysOnOk took g r (option_append (Some q) (text x)) h) e more) in
      displays_on_ok_of_eq took f h (Ok tt) _ _ (sym (row_more i xs d l))
      (displays_on_IsOk_append took f g h (Ok tt) (Ok tt) (row_shown text between (take i xs)) (item_at i x) (λ o. o) so one)
