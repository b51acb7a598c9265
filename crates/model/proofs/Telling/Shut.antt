-- Once a finish is closed, no task that runs lives in it, so no task will be spawned into it.
use Rattle.std.proofs.lemmas.Bool.Decides.{nat_tests}
use Rattle.std.proofs.Common.{◌≡◌, ℕ, ◌<◌, T, eqb, List, [], ◌∷◌, Some, sym, refl, ap, ◌∙◌, subst, arith}
use lib.Dec.{eqb_refl}
use Rattle.model.specs.declared.Event.{Event}
use Rattle.model.specs.declared.Event.TheVariants.{Spawn, Close}
use Rattle.model.specs.Lists.{mem, rest}
use Rattle.model.specs.Past.{Past, at, behind}
use Rattle.model.specs.Past.{opened_by, own, opens, home, innermost, innermost_of, lived_in}
use Rattle.model.specs.Accesses.{CellKind}
use Rattle.model.proofs.Shelf.Tests.{cond_eq, or_l}
use Rattle.model.proofs.Shelf.Lists.{any_in}
use Rattle.model.proofs.Shelf.Places.{at_case, behind_old, behind_top}
use Rattle.model.proofs.Linking.Sound.{Known, HasEnded, Good, Sound, spawned_is}
use Rattle.model.proofs.Linking.Finishes.{opens_le, own_has}
use Rattle.model.proofs.Linking.Reach.{full_is, home_first}

-- a finish that a task opened tells the task, and how many that had opened
opener_of : (a x t n : ℕ) → opened_by a x ≡ opened_by t n → a ≡ t
opener_of a x t n e = cc

number_of : (a x t n : ℕ) → opened_by a x ≡ opened_by t n → x ≡ n
number_of a x t n e = cc

-- each number is larger than those that follow it
abbrev Falls : List ℕ → Type 0
Falls [] = Unit {0}
Falls (x ∷ l) = ((y : ℕ) → T (mem y l) → y < x) × Falls l

falls_rest : (l : List ℕ) → Falls l → Falls (rest l)
falls_rest [] f = tt
falls_rest (x ∷ l) f = f.1

-- what stands in the rest of a list stands in the list
rest_mem : (n : ℕ) (l : List ℕ) → T (mem n (rest l)) → T (mem n l)
rest_mem n [] q = q
rest_mem n (x ∷ l) q = grind arith

module _ {C : Type 0} where
  own_falls : (h : Past C) (t : ℕ) → Falls (own h t)
  own_falls [] t = tt
  own_falls (Spawn a u ∷ h) t = own_falls h t
  own_falls (e ∷ h) t = grind (arith, nat_tests, own_falls h, own_has, falls_rest)

  -- a finish that a task has open was open, or is a new one
  own_back : (h : Past C) (e : Event C) (t n : ℕ) → n < opens h t → T (mem n (own (e ∷ h) t)) → T (mem n (own h t))
  own_back h (Spawn a u) t n l q = q
  own_back h e t n l q = grind arith

module _ {C : Type 0} (k : CellKind C) where
  -- the finish that t opened as its n-th is closed
  pub record Shut (h : Past C) (t n : ℕ) : Type 0 where
    -- t has opened it, and has it open no more
    pub old : n < opens h t
    pub gone : T (mem n (own h t)) → ⊥
    -- no task that runs lives in it
    pub empty : (v : ℕ) → Known k h v → (HasEnded k h v → ⊥) → home h v ≡ opened_by t n → ⊥

  -- no task that runs has it innermost
  shut_inner : (h : Past C) (t n a : ℕ) → Shut h t n → Known k h a → (HasEnded k h a → ⊥) → innermost h a ≡ opened_by t n → ⊥
  shut_inner h t n a s q r e = grind arith

  -- no event brings a running task into it
  shut_home : (h : Past C) (e : Event C) (t n : ℕ) → Good k h e → Shut h t n
      → (v : ℕ) → Known k (e ∷ h) v → (HasEnded k (e ∷ h) v → ⊥) → home (e ∷ h) v ≡ opened_by t n → ⊥
  shut_home h e t n g s v q r z = grind arith

  shut_step : (h : Past C) (e : Event C) (t n : ℕ) → Good k h e → Shut h t n → Shut (e ∷ h) t n
  shut_step h e t n g s = record {
    old = (let l = opens_le h e t in let o = s.old in omega arith);
    gone = λ q. s.gone (own_back h e t n s.old q);
    empty = shut_home h e t n g s;
  }

  -- whoever runs lives in no finish that may be closed
  none_lives : (h : Past C) → Sound k h → (t n v : ℕ) → (T (lived_in h (opened_by t n)) → ⊥)
      → Known k h v → (HasEnded k h v → ⊥) → home h v ≡ opened_by t n → ⊥
  none_lives h s t n v nl q r z = grind (arith, nat_tests, home_first, any_in, spawned_is)

  -- what a close closes is shut
  shut_close : (h : Past C) (t : ℕ) → Good k h (Close t) → Sound k h → (n : ℕ) × (innermost h t ≡ opened_by t n) × Shut (Close t ∷ h) t n
  shut_close h t g s =
      let (n, l, o) = full_is (own h t) g.extra.0 in
      let i : innermost h t ≡ opened_by t n = ap (λ m. innermost_of t m (home h t)) o in
      let now : own (Close t ∷ h) t ≡ l = cond_eq t t (rest (own h t)) (own h t) refl ∙ ap rest o in
      let in_own : T (mem n (own h t)) = subst (λ m. T (mem n m)) (sym o) (or_l (eqb n n) (mem n l) (eqb_refl n)) in (
        n,
        i,
        record {
          old = own_has h t n in_own;
          gone = λ q. (let f : n < n = (subst Falls o (own_falls h t)).0 n (subst (λ m. T (mem n m)) now q) in omega arith);
          empty = λ v q r z. none_lives h s t n v (λ y. g.extra.1 (subst (λ f. T (lived_in h f)) (sym i) y)) q r z;
        },
      )

  -- and it stays shut
  pub shut_at : (h : Past C) → Sound k h → (j t : ℕ) → at h j ≡ Some (Close t)
      → (n : ℕ) × (innermost (behind h j) t ≡ opened_by t n) × Shut h t n
  shut_at [] s j t q = cc
  shut_at (e ∷ h) s j t q = grind (arith, nat_tests, shut_at h, at_case, shut_close, behind_top, behind_old, shut_step)
