-- What the parts hold: steps and places in their histories, numbers in their names, and how many tasks and finishes there are.
use Rattle.std.proofs.lemmas.Option.{none-some}
use Rattle.std.proofs.lemmas.Option.{same_Some}
use Rattle.std.proofs.Common.{◌≡◌, ℕ, ◌+◌, ◌<◌, Bool, true, false, cond, ◌||◌, eqb, length, Some, None, Option, sym, refl, ◌∙◌, subst, inl, inr, arith}
use Rattle.model.specs.declared.History.{History}
use Rattle.model.specs.Past.{Past, made}
use Rattle.model.specs.Accesses.{CellKind}
use Rattle.model.specs.Cells.{cell_held, last_write, left_read, right_read}
use Rattle.model.specs.Rules.{Limits}
use Rattle.model.specs.Laws.{Clean}
use Rattle.model.specs.Link.{order_of, number}
use Rattle.model.specs.Parts.{parts_of, task_number, mark_at, history_of, MarkHeld, HistoryHeld}
use Rattle.model.proofs.Shelf.Tests.{tried}
use Rattle.model.proofs.Shelf.Places.{at_lt}
use Rattle.model.proofs.Linking.Sound.{Sound, clean_sound}
use Rattle.model.proofs.Linking.Keeper.{number_le, tasks_is}
use Rattle.model.proofs.Parting.Tasks.{task_known, task_unknown}
use Rattle.model.proofs.Parting.Cells.{Accessed, write_place, left_place, right_place}
use Rattle.model.proofs.Parting.Marks.{step_held, cur_held}

module _ {C : Type 0} (k : CellKind C) where
  mark_held : (lim : ℕ) (h : Past C) → Sound k h → (o : Option ℕ) → ((i : ℕ) → o ≡ Some i → Accessed k h i)
      → MarkHeld (order_of lim h).steps (length h) (mark_at h o)
  mark_held lim h s None f w q = cc
  mark_held lim h s (Some i) f w q =
      let r = f i refl in
      let b = at_lt h i r.0 r.1 in
      grind (arith, step_held)

  pub history_held : (lim : ℕ) (h : Past C) → Sound k h → (c : C) → HistoryHeld (order_of lim h).steps (length h) (history_of k h c)
  history_held lim h s c = record {
    write_held = mark_held lim h s (last_write k h c) (write_place k h c);
    left_held = mark_held lim h s (left_read k h c) (left_place k h c);
    right_held = mark_held lim h s (right_read k h c) (right_place k h c);
  }

  found : {V : Type 0} (b : Bool) (v x : V) → cond b (Some v) None ≡ Some x → v ≡ x
  found true v x q = cc
  found false v x q = cc

  -- what is found of a cell is within the order and the count
  pub found_held : (l : Limits) (h : Past C) → Clean k l h → (c : C) (x : History) → (parts_of k l h).cells.find c ≡ Some x
      → HistoryHeld (parts_of k l h).order.steps (parts_of k l h).count x
  found_held l h d c x q =
      subst (HistoryHeld (order_of l.steps h).steps (length h)) (found (cell_held k h c) (history_of k h c) x q)
      (history_held l.steps h (clean_sound k l h d) c)

  -- a number that is found is of a task of the order, on a step of the order
  pub number_held : (l : Limits) (h : Past C) → Clean k l h → (t n : ℕ) → task_number (parts_of k l h) t ≡ Some n
      → (n ≡ number h t) × (n < (parts_of k l h).order.tasks) × (((parts_of k l h).order.task n).current < (parts_of k l h).order.steps)
  number_held l h c t n q =
      let s = clean_sound k l h c in
      elim (tried (eqb t 0 || made h t)) [
        | inl y ↦ (let e : n ≡ number h t = same_Some _ _ (sym q ∙ task_known k l h s t y) in (
          e,
          (let a = number_le k l.steps h t in let b = tasks_is k l.steps h in omega arith),
          subst (λ x. ((order_of l.steps h).task x).current < (order_of l.steps h).steps) (sym e) (cur_held k l.steps h s t y),
        ))
        | inr z ↦ absurd (none-some _ (sym (task_unknown k l h t z) ∙ q))
      ]

  -- the order has one task more than there are names
  pub tasks_count : (l : Limits) (h : Past C) → (parts_of k l h).order.tasks ≡ (parts_of k l h).names.count + 1
  tasks_count l h = tasks_is k l.steps h
