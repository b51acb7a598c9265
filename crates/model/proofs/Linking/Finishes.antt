-- The finishes of a past, and the keeper's numbers of them: each finish has its own.
use Rattle.std.proofs.lemmas.Bool.Decides.{nat_tests}
use Rattle.std.proofs.Common.{◌≡◌, ℕ, ◌<◌, ◌≤◌, cond, T, eqb, List, [], ◌∷◌, ◌++◌, refl, arith}
use lib.Dec.{eqb_refl}
use Rattle.model.specs.declared.Event.{Event}
use Rattle.model.specs.declared.Event.TheVariants.{Spawn, End, Open, Close, Read, Write}
use Rattle.model.specs.Lists.{mem, head_or, rest}
use Rattle.model.specs.Past.{Past, makes, own, is_open, opens, home, innermost, innermost_of, Finish, outer, opened_by}
use Rattle.model.specs.Past.{same_finish}
use Rattle.model.specs.Accesses.{CellKind}
use Rattle.model.specs.Orders.{Order}
use Rattle.model.specs.Link.{order_of}
use Rattle.model.proofs.Shelf.Tests.{or_l, or_r, cond_no}
use Rattle.model.proofs.Linking.Sound.{Known, HasEnded, Sound, known_old}

pub same_finish_eq : (f g : Finish) → T (same_finish f g) → f ≡ g
same_finish_eq outer outer h = refl
same_finish_eq outer (opened_by t n) h = absurd h
same_finish_eq (opened_by t n) outer h = absurd h
same_finish_eq (opened_by t n) (opened_by u m) h = grind arith

pub same_finish_refl : (f : Finish) → T (same_finish f f)
same_finish_refl outer = tt
same_finish_refl (opened_by t n) = grind arith

module _ {C : Type 0} where
  -- a finish that was opened, or the outer one
  abbrev pub HasFinish : Past C → Finish → Type 0
  HasFinish h outer = Unit {0}
  HasFinish h (opened_by t n) = n < opens h t

  pub opens_le : (h : Past C) (e : Event C) (t : ℕ) → opens h t ≤ opens (e ∷ h) t
  opens_le h (Spawn a u) t = omega arith
  opens_le h e t = grind arith

  has_finish_old : (h : Past C) (e : Event C) (f : Finish) → HasFinish h f → HasFinish (e ∷ h) f
  has_finish_old h e outer q = tt
  has_finish_old h e (opened_by t n) q = let l = opens_le h e t in omega arith

  -- an event that opens none adds none
  has_finish_back : (h : Past C) (e : Event C) (f : Finish) → (T (is_open e) → ⊥) → HasFinish (e ∷ h) f → HasFinish h f
  has_finish_back h e outer n q = tt
  has_finish_back h e (opened_by t m) n q = grind arith

  -- the finishes of its own that a task has open were opened
  pub own_has : (h : Past C) (t n : ℕ) → T (mem n (own h t)) → n < opens h t
  own_has [] t n q = absurd q
  own_has (Spawn a u ∷ h) t n q = own_has h t n q
  own_has (End a ∷ h) t n q = own_has h t n q
  own_has (Open a ∷ h) t n q = grind (arith, nat_tests, own_has h)
  own_has (Close a ∷ h) t n q = grind (arith, nat_tests, own_has h, in_rest)
    where
      in_rest : (l : List ℕ) → T (mem n (rest l)) → T (mem n l)
      in_rest [] r = r
      in_rest (x ∷ l) r = or_r (eqb n x) (mem n l) r
  own_has (Read a c ∷ h) t n q = own_has h t n q
  own_has (Write a c ∷ h) t n q = own_has h t n q

  innermost_has : (h : Past C) (t : ℕ) (l : List ℕ) (f : Finish) → ((n : ℕ) → T (mem n l) → n < opens h t) → HasFinish h f
      → HasFinish h (innermost_of t l f)
  innermost_has h t [] f o q = q
  innermost_has h t (n ∷ l) f o q = o n (or_l (eqb n n) (mem n l) (eqb_refl n))

  pub home_has : (h : Past C) (t : ℕ) → HasFinish h (home h t)
  home_has [] t = tt
  home_has (e ∷ h) t = grind (arith, nat_tests, home_has h, has_finish_old, innermost_has, own_has)

  pub inner_has : (h : Past C) (t : ℕ) → HasFinish h (innermost h t)
  inner_has h t = innermost_has h t (own h t) (home h t) (own_has h t) (home_has h t)

  pub home_old : (h : Past C) (e : Event C) (t : ℕ) → (T (makes t e) → ⊥) → home (e ∷ h) t ≡ home h t
  home_old h e t n = cond_no (makes t e) _ _ n

module _ {C : Type 0} (k : CellKind C) (lim : ℕ) where
  -- the order that the keeper means after a past
  abbrev keeper : Past C → Order
  keeper h = order_of lim h

  -- the keeper's number of a finish
  abbrev pub finish_number : Past C → Finish → ℕ
  finish_number [] f = 0
  finish_number (Spawn a u ∷ h) f = finish_number h f
  finish_number (End a ∷ h) f = finish_number h f
  finish_number (Open a ∷ h) f = cond (same_finish f (opened_by a (opens h a))) (keeper h).finishes (finish_number h f)
  finish_number (Close a ∷ h) f = finish_number h f
  finish_number (Read a c ∷ h) f = finish_number h f
  finish_number (Write a c ∷ h) f = finish_number h f

  -- a finish that was opened is not the next one
  not_new : (h : Past C) (a : ℕ) (f : Finish) → HasFinish h f → T (same_finish f (opened_by a (opens h a))) → ⊥
  not_new h a outer q s = s
  not_new h a (opened_by t n) q s = grind arith

  -- a finish that was opened keeps its number
  pub finish_number_old : (h : Past C) (e : Event C) (f : Finish) → HasFinish h f → finish_number (e ∷ h) f ≡ finish_number h f
  finish_number_old h (Spawn a u) f q = refl
  finish_number_old h e f q = grind arith

  finish_number_lt : (h : Past C) (f : Finish) → finish_number h f < (keeper h).finishes
  finish_number_lt [] f = omega arith
  finish_number_lt (Spawn a u ∷ h) f = finish_number_lt h f
  finish_number_lt (e ∷ h) f = grind (arith, nat_tests, finish_number_lt h)

  has_finish_open : (h : Past C) (a : ℕ) (f : Finish) → HasFinish (Open a ∷ h) f
      → (T (same_finish f (opened_by a (opens h a))) → ⊥) → HasFinish h f
  has_finish_open h a outer q n = tt
  has_finish_open h a (opened_by t m) q n = grind arith

  -- what an open numbers, and what it leaves
  number_new : (h : Past C) (f new : Finish) → T (same_finish f new)
      → cond (same_finish f new) (keeper h).finishes (finish_number h f) ≡ (keeper h).finishes
  number_new h f new x = grind arith

  number_not_new : (h : Past C) (f new : Finish) → (T (same_finish f new) → ⊥)
      → cond (same_finish f new) (keeper h).finishes (finish_number h f) ≡ finish_number h f
  number_not_new h f new x = grind arith

  pub finish_number_inj : (h : Past C) (f g : Finish) → HasFinish h f → HasFinish h g → finish_number h f ≡ finish_number h g → f ≡ g
  finish_number_inj [] outer outer p q e = refl
  finish_number_inj [] outer (opened_by t n) p q e = absurd (omega arith)
  finish_number_inj [] (opened_by t n) g p q e = absurd (omega arith)
  finish_number_inj (Open a ∷ h) f g p q e =
      let new = opened_by a (opens h a) in
      grind (arith, nat_tests, finish_number_inj h, new, same_finish_eq, number_new, number_not_new, finish_number_lt, has_finish_open)
  finish_number_inj (d ∷ h) f g p q e = grind (arith, nat_tests, finish_number_inj h)

  -- the keeper's numbers of finishes that a task opened
  abbrev pub own_numbers : Past C → ℕ → List ℕ → List ℕ
  own_numbers h t [] = []
  own_numbers h t (n ∷ ns) = finish_number h (opened_by t n) ∷ own_numbers h t ns

  -- these, and the number of the task's home last
  abbrev pub numbers_with : Past C → ℕ → List ℕ → List ℕ
  numbers_with h t l = own_numbers h t l ++ (finish_number h (home h t) ∷ [])

  -- the keeper's list of a task's finishes
  abbrev pub finish_numbers : Past C → ℕ → List ℕ
  finish_numbers h t = numbers_with h t (own h t)

  own_numbers_old : (h : Past C) (e : Event C) (t : ℕ) (l : List ℕ) → ((n : ℕ) → T (mem n l) → n < opens h t)
      → own_numbers (e ∷ h) t l ≡ own_numbers h t l
  own_numbers_old h e t [] o = refl
  own_numbers_old h e t (n ∷ l) o = grind (arith, nat_tests, own_numbers_old h e t l)

  -- with the finishes of its own that e leaves to t
  pub numbers_with_old : (h : Past C) (e : Event C) (t : ℕ) (l : List ℕ) → ((n : ℕ) → T (mem n l) → n < opens h t) → (T (makes t e) → ⊥)
      → numbers_with (e ∷ h) t l ≡ numbers_with h t l
  numbers_with_old h e t l o n = grind (arith, nat_tests, own_numbers_old, home_old, finish_number_old, home_has)

  finish_numbers_head : (h : Past C) (t : ℕ) (l : List ℕ) (f : Finish)
      → head_or (own_numbers h t l ++ (finish_number h f ∷ [])) 0 ≡ finish_number h (innermost_of t l f)
  finish_numbers_head h t [] f = refl
  finish_numbers_head h t (n ∷ l) f = refl

  pub finish_numbers_inner : (h : Past C) (t : ℕ) → head_or (finish_numbers h t) 0 ≡ finish_number h (innermost h t)
  finish_numbers_inner h t = finish_numbers_head h t (own h t) (home h t)

  -- what is not known has done nothing
  pub unknown_own : (h : Past C) → Sound k h → (t : ℕ) → (Known k h t → ⊥) → own h t ≡ []
  unknown_own [] s t n = refl
  unknown_own (Spawn a u ∷ h) s t n = unknown_own h s.1 t (λ q. n (known_old k h (Spawn a u) t q))
  unknown_own (e ∷ h) s t n = grind (arith, nat_tests, unknown_own h)

  -- what has ended is known
  pub ended_known : (h : Past C) → Sound k h → (t : ℕ) → HasEnded k h t → Known k h t
  ended_known [] s t q = absurd q
  ended_known (Spawn a u ∷ h) s t q = known_old k h (Spawn a u) t (ended_known h s.1 t q)
  ended_known (e ∷ h) s t q = grind (arith, nat_tests, ended_known h)
