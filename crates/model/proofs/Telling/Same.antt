-- The told relation and the recorded one are the same: each rule of one is a rule of the other, or a chain of its steps.
use Rattle.std.proofs.Math.Facts.{or_yes}
use Rattle.std.proofs.lemmas.Bool.Decides.{nat_tests}
use Rattle.std.proofs.Common.{◌≡◌, ℕ, ◌<◌, ◌||◌, T, eqb, Some, sym, ap, ◌∙◌, inl, inr, eqb→eq, arith}
use Rattle.model.specs.declared.Event.{Event}
use Rattle.model.specs.declared.Event.TheVariants.{Spawn, Close}
use Rattle.model.specs.Past.{Past, at, behind, actor, makes, ends, home, innermost, Finish, closes}
use Rattle.model.specs.Before.{awaited, leads, HappensBefore, direct, through, Told, to_next, to_child, to_close, through as told_through}
use Rattle.model.specs.Accesses.{CellKind}
use Rattle.model.proofs.Shelf.Places.{ends_is}
use Rattle.model.proofs.Shelf.Places.{at_lt}
use Rattle.model.proofs.Linking.Sound.{Sound}
use Rattle.model.proofs.Telling.Chain.{chain}
use Rattle.model.proofs.Telling.Sooner.{home_then, spawn_sooner, end_sooner}

module _ {C : Type 0} where
  -- the three disjuncts of `leads`
  leads_same : (g : Past C) (d e : Event C) → actor d ≡ actor e → T (leads g d e)
  leads_same g d e q = grind arith

  leads_makes : (g : Past C) (d e : Event C) → T (makes (actor e) d) → T (leads g d e)
  leads_makes g d e q = grind arith

  leads_awaits : (g : Past C) (d e : Event C) → T (awaited g d e) → T (leads g d e)
  leads_awaits g d e q = grind arith

  -- an end of a task that lives in the finish that e closes
  awaits_by : (g : Past C) (d e : Event C) → T (ends (actor d) d) → closes g e ≡ Some (home g (actor d)) → T (awaited g d e)
  awaits_by g d e q c = grind arith

  awaits_of : (g : Past C) (d e : Event C) → T (awaited g d e) → T (ends (actor d) d) × (closes g e ≡ Some (home g (actor d)))
  awaits_of g d e q = grind arith

  -- an event that closes a finish is a close
  close_is : (g : Past C) (e : Event C) (f : Finish) → closes g e ≡ Some f → (e ≡ Close (actor e)) × (innermost g (actor e) ≡ f)
  close_is g (Spawn t u) f q = cc
  close_is g e f q = grind arith

module _ {C : Type 0} (k : CellKind C) where
  awaited_sooner : (h : Past C) → Sound k h → (i j : ℕ) (d e : Event C) → at h i ≡ Some d → at h j ≡ Some e
      → T (ends (actor d) d) → closes (behind h j) e ≡ Some (home h (actor d)) → i < j
  awaited_sooner h s i j d e a b q c =
      let ending = ends_is (actor d) d q in
      grind (arith, nat_tests, close_is, end_sooner)

  awaited_before : (h : Past C) → Sound k h → (i j : ℕ) (d e : Event C) → at h i ≡ Some d → at h j ≡ Some e
      → T (ends (actor d) d) → closes (behind h j) e ≡ Some (home h (actor d)) → HappensBefore h i j
  awaited_before h s i j d e a b q c =
      let l = awaited_sooner h s i j d e a b q c in
      let then = home_then k h s i j d l (at_lt h j e b) a in
      direct i j d e l a b (leads_awaits (behind h j) d e (awaits_by (behind h j) d e q (c ∙ ap Some (sym then))))

  awaits_told : (h : Past C) → Sound k h → (i j : ℕ) (d e : Event C) → i < j → at h i ≡ Some d → at h j ≡ Some e
      → T (awaited (behind h j) d e) → Told h i j
  awaits_told h s i j d e l a b q =
      let (r, c) = awaits_of (behind h j) d e q in
      to_close i j d e a b r (c ∙ ap Some (home_then k h s i j d l (at_lt h j e b) a))

  pub told_before : (h : Past C) → Sound k h → (i j : ℕ) → Told h i j → HappensBefore h i j
  told_before h s _ _ (to_next i j d e l a b q n) = direct i j d e l a b (leads_same (behind h j) d e q)
  told_before h s _ _ (to_child i j d e a b q) = direct i j d e (spawn_sooner k h s i j d e a b q) a b (leads_makes (behind h j) d e q)
  told_before h s _ _ (to_close i j d e a b q c) = awaited_before h s i j d e a b q c
  told_before h s _ _ (told_through i j l p q) = through i j l (told_before h s i j p) (told_before h s j l q)

  pub before_told : (h : Past C) → Sound k h → (i j : ℕ) → HappensBefore h i j → Told h i j
  before_told h s _ _ (direct i j d e l a b q) = elim (or_yes (eqb (actor d) (actor e)) (makes (actor e) d || awaited (behind h j) d e) q) [
    | inl x ↦ chain h i j d e l a b (eqb→eq (actor d) (actor e) x)
    | inr x ↦ elim (or_yes (makes (actor e) d) (awaited (behind h j) d e) x) [
      | inl y ↦ to_child i j d e a b y
      | inr y ↦ awaits_told h s i j d e l a b y
    ]
  ]
  before_told h s _ _ (through i j l p q) = told_through i j l (before_told h s i j p) (before_told h s j l q)
