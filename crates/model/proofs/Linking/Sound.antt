-- What it says of the tasks and finishes of a past that each of its events was taken, with a race or without.
use Rattle.std.proofs.lemmas.Bool.Decides.{nat_tests}
use Rattle.std.proofs.Common.{◌≡◌, ℕ, ◌≤◌, ◌||◌, T, eqb, ◌⊎◌, [], ◌∷◌, Some, None, Option, refl, ap, arith}
use Rattle.model.specs.declared.Event.{Event}
use Rattle.model.specs.declared.Event.TheVariants.{Spawn, End, Open, Close, Read, Write}
use Rattle.model.specs.declared.Race.{Race}
use Rattle.model.specs.Lists.{mem, is_empty}
use Rattle.model.specs.Past.{Past, at, actor, makes, own, innermost, made, ended, spawned_tasks, lived_in}
use Rattle.model.specs.Accesses.{CellKind}
use Rattle.model.specs.Rules.{Limits, taken, judge, first_tests, by_kind}
use Rattle.model.specs.Laws.{Clean}
use Rattle.model.proofs.Shelf.Places.{at_lt, at_case, at_any}
use Rattle.model.proofs.Orderings.Races.{passes}

module _ {C : Type 0} (k : CellKind C) where
  -- a task that was made, or the first one
  abbrev pub Known : Past C → ℕ → Type 0
  Known h t = T (eqb t 0 || made h t)

  -- a task that has ended
  abbrev pub HasEnded : Past C → ℕ → Type 0
  HasEnded h t = T (ended h t)

  -- what the rules ask of an event of its kind: a new child; no finish of its own at the end; one to close, in which no task lives
  abbrev pub KindNeeds : Past C → Event C → Type 0
  KindNeeds h (Spawn t u) = Known h u → ⊥
  KindNeeds h (End t) = T (is_empty (own h t))
  KindNeeds h (Open t) = Unit {0}
  KindNeeds h (Close t) = (T (is_empty (own h t)) → ⊥) × (T (lived_in h (innermost h t)) → ⊥)
  KindNeeds h (Read t c) = Unit {0}
  KindNeeds h (Write t c) = Unit {0}

  -- an event that the rules allow on the past h: its task is known and runs
  pub record Good (h : Past C) (e : Event C) : Type 0 where
    pub is_known : Known h (actor e)
    pub runs : HasEnded h (actor e) → ⊥
    pub extra : KindNeeds h e

  -- a past of such events
  abbrev pub Sound : Past C → Type 0
  Sound [] = Unit {0}
  Sound (e ∷ h) = Good h e × Sound h

  by_kind_good : (l : Limits) (h : Past C) (e : Event C) (m : Option (Race C)) → by_kind k l h e ≡ taken m
      → (HasEnded h (actor e) → ⊥) × KindNeeds h e
  by_kind_good l h (Spawn t u) m q = grind arith
  by_kind_good l h e m q = grind arith

  pub taken_good : (l : Limits) (h : Past C) (e : Event C) (r : Option (Race C)) → judge k l h e ≡ taken r → Good h e
  taken_good l h e r q =
      let p = passes k (first_tests k l h e) (by_kind k l h e) r q in
      let g = by_kind_good l h e r p.1 in
      record { is_known = grind arith; runs = g.0; extra = g.1 }

  -- so a clean past is sound
  pub clean_sound : (l : Limits) (h : Past C) → Clean k l h → Sound h
  clean_sound l [] c = tt
  clean_sound l (e ∷ h) c = (taken_good l h e None c.0, clean_sound l h c.1)

  -- a task stands among the spawned ones if it was made
  pub spawned_is : (h : Past C) (u : ℕ) → mem u (spawned_tasks h) ≡ made h u
  spawned_is [] u = refl
  spawned_is (Spawn a v ∷ h) u = ap (λ b. eqb u v || b) (spawned_is h u)
  spawned_is (e ∷ h) u = grind (arith, spawned_is h)

  -- knowing and ending last
  pub known_old : (h : Past C) (e : Event C) (t : ℕ) → Known h t → Known (e ∷ h) t
  known_old h e t q = grind arith

  pub known_new : (h : Past C) (e : Event C) (t : ℕ) → Known (e ∷ h) t → T (makes t e) ⊎ Known h t
  known_new h e t q = grind arith

  pub makes_known : (h : Past C) (e : Event C) (t : ℕ) → T (makes t e) → Known (e ∷ h) t
  makes_known h e t q = grind arith

  -- an event makes no task that is known
  pub stale : (h : Past C) (e : Event C) → Good h e → (w : ℕ) → Known h w → T (makes w e) → ⊥
  stale h (Spawn a u) g w q z = grind arith
  stale h e g w q z = grind arith

  -- the tasks of a past's events are known, and those that they make
  pub actor_known : (h : Past C) → Sound h → (i : ℕ) (d : Event C) → at h i ≡ Some d → Known h (actor d)
  actor_known [] s i d q = cc
  actor_known (e ∷ h) s i d q = grind (arith, nat_tests, actor_known h)

  pub child_known : (h : Past C) (i : ℕ) (d : Event C) (u : ℕ) → at h i ≡ Some d → T (makes u d) → Known h u
  child_known h i d u q m = grind (arith, nat_tests, at_any)

  -- no event of a task follows its end
  pub end_last : (h : Past C) → Sound h → (i j : ℕ) (t : ℕ) (d : Event C) → at h i ≡ Some (End t) → at h j ≡ Some d → actor d ≡ t → j ≤ i
  end_last [] s i j t d p q a = cc
  end_last (e ∷ h) s i j t d p q a = grind (arith, nat_tests, end_last h, at_case, at_lt, at_any)
