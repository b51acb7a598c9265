-- Where the calls start.
use Rattle.std.proofs.Common.{◌≡◌, ℕ, T, sym, refl, subst, inl, inr, arith}
use Rattle.std.proofs.lemmas.Bool.{cases_eq}
use Rattle.model.proofs.Shelf.Tests.{cond_eq, cond_ne}
use Rattle.model.specs.Orders.{Order, Task, no_task, emptied}
use Rattle.edges.specs.Ways.{unwalked}
use Rattle.edges.proofs.Paths.{Back, here}
use Rattle.edges.proofs.Kept.{Own, Owns, Walker, Kept, alone_in, alone_above}

module _ (limit : ℕ) where
  abbrev m : Order
  m = emptied limit

  abbrev first : Task
  first = m.task 0

  -- the first task, or one that is not held
  task_case : (P : Task → Type 0) (x : ℕ) → (x ≡ 0 → P first) → P no_task → P (m.task x)
  task_case P x p q = elim (cases_eq x 0) [
    | inl e ↦ subst P (sym (cond_eq x 0 first no_task e)) (p e)
    | inr d ↦ subst P (sym (cond_ne x 0 first no_task d)) q
  ]

  -- no task has opened a finish
  owns_none : (x f : ℕ) → Owns m x f → ⊥
  owns_none x f = task_case (λ z. T z.running × Own f z.finishes → ⊥) x (λ e o. o.1) (λ o. o.0)

  walker_first : Walker m unwalked 0 first
  walker_first =
      record {
        current_held = omega arith;
        home_last = refl;
        lives = tt;
        finish_held = λ f i. let e = alone_in f 0 i in omega arith;
        nested = λ g f i. absurd (alone_above g f 0 i);
        open_still = λ f i. refl;
        awake = λ y b. refl;
        within = inl refl;
      }

  pub start_kept : Kept (emptied limit) unwalked
  start_kept =
      record {
        grown = record {
          falls = λ x z l. absurd (omega arith);
          home_up = λ x z l. absurd (omega arith);
          home_held = λ x l. omega arith;
          shut_by = λ f. omega arith;
          shut_held = λ f l. refl;
          waits = λ y b l i j. absurd (omega arith);
        };
        walker = λ t. task_case (λ z. T z.running → Walker m unwalked t z) t
            (λ e run. subst (λ z. Walker m unwalked z first) (sym e) walker_first) (λ run. absurd run);
        one_owner = λ u v f o p. absurd (owns_none u f o);
        last_is = λ f l i. absurd i;
        handed = λ v f x y o st b d. absurd (owns_none v f o);
        awaited = λ z l. (0, inr (0, tt, refl, refl), subst (λ p. Back unwalked.from p 0) (omega arith) here);
        order = record {
          before_held = λ a b t. absurd t;
          told = λ a b t. absurd t;
          found = λ a b i j d f. absurd (d (omega arith));
        };
      }
