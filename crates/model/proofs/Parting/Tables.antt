-- A table has one key more, or another value at one key: an access moves the histories, a spawn the names, and nothing else does.
use Rattle.std.proofs.lemmas.Bool.Decides.{nat_tests}
use Rattle.std.proofs.Common.{◌≡◌, ℕ, ◌+◌, Bool, true, false, cond, ◌||◌, T, eqb, ◌∷◌, Some, None, sym, refl, ap, ◌∙◌, inl, inr, arith, subst}
use Rattle.model.specs.declared.Event.{Event}
use Rattle.model.specs.declared.Event.TheVariants.{Spawn}
use Rattle.model.specs.declared.History.{History}
use Rattle.model.specs.Lists.{some_or}
use Rattle.model.specs.Past.{Past, made}
use Rattle.model.specs.Accesses.{CellKind, accesses, cell_of}
use Rattle.model.specs.Cells.{cell_held, cells_held}
use Rattle.model.specs.Rules.{Limits}
use Rattle.model.specs.Link.{order_of}
use Rattle.model.specs.Parts.{parts_of, history_of, with_key}
use Rattle.model.proofs.Shelf.Tests.{or_l, or_r, tried, is_false, cond_yes, cond_no, same_sym}
use Rattle.model.proofs.Linking.Sound.{Known, Sound}
use Rattle.model.proofs.Linking.Keeper.{tasks_is}
use Rattle.model.proofs.Parting.Words.{keyed_ext}
use Rattle.model.proofs.Parting.Marks.{history_other}

module _ {C : Type 0} (k : CellKind C) (l : Limits) where
  -- one more key counts one
  counted : {V : Type 0} (b : Bool) (n : ℕ) (v : V) → cond b 0 1 + n ≡ n + some_or (λ (x : V). 0) 1 (cond b (Some v) None)
  counted true n v = omega arith
  counted false n v = omega arith

  -- a cell that the event does not touch
  found_still : (h : Past C) (e : Event C) (j : C) → Sound k (e ∷ h) → (T (accesses k j e) → ⊥)
      → (parts_of k l (e ∷ h)).cells.find j ≡ (parts_of k l h).cells.find j
  found_still h e j s n = grind (arith, history_other)

  -- an event that touches no cell
  pub still_cells : (h : Past C) (e : Event C) → Sound k (e ∷ h) → cell_of e ≡ None → ((j : C) → T (accesses k j e) → ⊥)
      → (parts_of k l (e ∷ h)).cells ≡ (parts_of k l h).cells
  still_cells h e s o a = grind (arith, found_still)

  -- an access of c
  pub moved_cells : (h : Past C) (e : Event C) (c : C) (v : History)
      → Sound k (e ∷ h) → cell_of e ≡ Some c → ((j : C) → accesses k j e ≡ k.same j c)
      → history_of k (e ∷ h) c ≡ v → (parts_of k l (e ∷ h)).cells ≡ with_key k.same (parts_of k l h).cells c v
  moved_cells h e c v s o a p =
      keyed_ext (parts_of k l (e ∷ h)).cells (with_key k.same (parts_of k l h).cells c v) refl
      (ap (λ x. some_or (λ (c : C). cond (cell_held k h c) 0 1) 0 x + cells_held k h) o
      ∙ counted (cell_held k h c) (cells_held k h) (history_of k h c))
      (λ j. elim (tried (k.same c j)) [
        | inl y ↦ (let at_j : T (accesses k j e) = subst T (sym (a j)) (subst T (same_sym k c j) y) in
            cond_yes (accesses k j e || cell_held k h j) (Some (history_of k (e ∷ h) j)) None (or_l (accesses k j e) (cell_held k h j) at_j)
            ∙ (ap (λ x. Some (history_of k (e ∷ h) x)) (sym (k.same_is c j y))
            ∙ (ap Some p
            ∙ sym (cond_yes (k.same c j) (Some v) ((parts_of k l h).cells.find j) y))))
        | inr n ↦ (let off : T (accesses k j e) → ⊥ = λ z. n (subst T (same_sym k j c) (subst T (a j) z)) in
            found_still h e j s off ∙ sym (cond_no (k.same c j) (Some v) ((parts_of k l h).cells.find j) n))
      ])

  -- a new name
  pub spawn_names : (h : Past C) (t u : ℕ) → (Known k h u → ⊥)
      → (parts_of k l (Spawn t u ∷ h)).names ≡ with_key eqb (parts_of k l h).names u (order_of l.steps h).tasks
  spawn_names h t u n =
      let new : made h u ≡ false = is_false (made h u) (λ z. n (or_r (eqb u 0) (made h u) z)) in
      grind (arith, nat_tests, found, tasks_is)
    where
      found : (a b : Bool) (y x : ℕ) → cond (a || b) (Some (cond a y x)) None ≡ cond a (Some y) (cond b (Some x) None)
      found true b y x = refl
      found false b y x = refl
