-- What the keeper says of a task, in the words of the rules.
use Rattle.std.proofs.lemmas.Bool.Decides.{nat_tests}
use Rattle.std.proofs.Common.{◌≡◌, ℕ, ◌+◌, ◌<◌, true, false, not, ◌||◌, T, eqb, ltb, List, [], ◌∷◌, ◌++◌, Some, None, refl, ap, ◌∙◌, arith}
use Rattle.model.specs.Lists.{is_empty, head_or, some_or}
use Rattle.model.specs.Past.{Past, own, home, innermost, made, ended, lived_in}
use Rattle.model.specs.Accesses.{CellKind}
use Rattle.model.specs.Rules.{Limits, steps_held}
use Rattle.model.specs.Orders.{Order, gone, few, has_own, lived}
use Rattle.model.specs.Link.{order_of, number}
use Rattle.model.specs.Parts.{parts_of, task_number}
use Rattle.model.proofs.Shelf.Tests.{T-ext}
use Rattle.model.proofs.Shelf.Lists.{any_below_of, any_below_in}
use Rattle.model.proofs.Linking.Sound.{Known, HasEnded, Sound}
use Rattle.model.proofs.Linking.Keeper.{number_le, tasks_is}
use Rattle.model.proofs.Linking.Finishes.{finish_number, own_numbers}
use Rattle.model.proofs.Linking.Reach.{steps_is, task_running, task_finishes, head_is, lives_of}
use Rattle.model.proofs.Linking.Access.{limit_free}
use Rattle.model.proofs.Linking.Linked.{lived_lives, not_lived}

module _ {C : Type 0} (k : CellKind C) where
  -- the first task is never made, so its number stays 0
  number_first : (h : Past C) → Sound k h → number h 0 ≡ 0
  number_first [] s = refl
  number_first (e ∷ h) s = grind (arith, nat_tests, number_first h)

  pub task_known : (l : Limits) (h : Past C) → Sound k h → (t : ℕ) → Known k h t → task_number (parts_of k l h) t ≡ Some (number h t)
  task_known l h s t q = grind (arith, number_first)

  pub task_unknown : (l : Limits) (h : Past C) (t : ℕ) → (Known k h t → ⊥) → task_number (parts_of k l h) t ≡ None
  task_unknown l h t n = grind arith

  -- whether a name is taken
  pub taken_name : (l : Limits) (h : Past C) (u : ℕ) → some_or (λ x. true) false (task_number (parts_of k l h) u) ≡ (eqb u 0 || made h u)
  taken_name l h u = grind arith

  module _ (lim : ℕ) where
    -- the order that the keeper means
    abbrev mo : Past C → Order
    mo h = order_of lim h

    pub limit_is : (h : Past C) → (mo h).limit ≡ lim
    limit_is h = ap (λ (m : Order). m.limit) (limit_free lim h)

    pub few_is : (h : Past C) (n : ℕ) → few (mo h) n ≡ ltb lim (steps_held h + n)
    few_is h n = ap (λ x. ltb x ((mo h).steps + n)) (limit_is h) ∙ ap (λ x. ltb lim (x + n)) (steps_is k lim h)

    pub gone_is : (h : Past C) → Sound k h → (t : ℕ) → Known k h t → gone (mo h) (number h t) ≡ ended h t
    gone_is h s t q = grind (arith, task_running)

    has_own_fins : (h : Past C) (t x : ℕ) (l : List ℕ) → has_own (own_numbers k lim h t l ++ (x ∷ [])) ≡ not (is_empty l)
    has_own_fins h t x [] = refl
    has_own_fins h t x (n ∷ []) = refl
    has_own_fins h t x (n ∷ (m ∷ l)) = refl

    pub has_own_is : (h : Past C) → Sound k h → (t : ℕ) → Known k h t → (HasEnded k h t → ⊥)
        → has_own ((mo h).task (number h t)).finishes ≡ not (is_empty (own h t))
    has_own_is h s t q n = ap (has_own) (task_finishes k lim h s t q n) ∙ has_own_fins h t (finish_number k lim h (home h t)) (own h t)

    lives_held : (h : Past C) → Sound k h → (f n : ℕ) → T ((mo h).lives f n) → n < (mo h).tasks
    lives_held h s f n q = grind (arith, nat_tests, lives_of, number_le, tasks_is)

    pub lived_is : (h : Past C) → Sound k h → (t : ℕ) → Known k h t → (HasEnded k h t → ⊥) → (T (is_empty (own h t)) → ⊥)
        → lived (mo h) (head_or ((mo h).task (number h t)).finishes 0) ≡ lived_in h (innermost h t)
    lived_is h s t q n o = ap (lived (mo h)) (head_is k lim h s t q n) ∙ T-ext (lived (mo h) f) (lived_in h (innermost h t)) to fro
      where
        f : ℕ
        f = finish_number k lim h (innermost h t)

        to : T (lived (mo h) f) → T (lived_in h (innermost h t))
        to z = grind (arith, nat_tests, any_below_of, not_lived)

        fro : T (lived_in h (innermost h t)) → T (lived (mo h) f)
        fro z =
            let r = lived_lives k lim h s t z in
            any_below_in ((mo h).lives f) (mo h).tasks r.0 (lives_held h s f r.0 r.1) r.1
