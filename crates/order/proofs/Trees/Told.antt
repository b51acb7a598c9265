-- Where the labels of a book are those of the tree that was grown, the book tells of `before` and `earlier` what the order says; so a
-- call keeps a tree sound if it keeps its book and its labels.
use Rattle.std.proofs.Common.{◌≡◌, ℕ, ◌*◌, ◌<◌, Bool, refl, sym, ap, ap₂, ◌∙◌, arith}
use Rattle.model.specs.Orders.{Order}
use Rattle.model.specs.Labels.{left, over}
use Rattle.model.specs.Reached.{Reached}
use Rattle.model.specs.Trees.{Tree, tree_of}
use Rattle.model.proofs.Trees.Reached.{reached_labels, reached_laws}
use Rattle.order.specs.States.{State}
use Rattle.order.specs.Invariants.{Plain}
use Rattle.order.specs.Plans.{StandsFor}
use Rattle.order.specs.Trees.{TreeSound, Node, step_label, tree_plan, tree_order}
use Rattle.order.specs.Grown.{Grew}
use Rattle.order.proofs.Keeping.Agree.{agree}

-- what the labels of a book's steps tell
abbrev pub over_of : State → ℕ → ℕ → Bool
over_of st a b = over (step_label st a) (step_label st b)

abbrev pub left_of : State → ℕ → ℕ → Bool
left_of st a b = left (step_label st a) (step_label st b)

module _ (st : State) (m : Order) (reach : Reached st.limit m) (same : st.steps ≡ m.steps)
    (told : (x : ℕ) → x < st.steps → step_label st x ≡ (tree_of reach).step x) where
  pub before_told : (a b : ℕ) → (tree_order st).before a b ≡ m.before a b
  before_told a b =
      agree m.before st.steps a b (over_of st a b)
      (λ h. let l = (reached_laws st.limit m reach).before_held a b h in (omega arith, omega arith))
      (λ p q. (reached_labels st.limit m reach).before_is a b (omega arith) (omega arith) ∙ sym (ap₂ over (told a p) (told b q)))

  pub earlier_told : (a b : ℕ) → (tree_order st).earlier a b ≡ m.earlier a b
  earlier_told a b =
      agree m.earlier st.steps a b (left_of st a b)
      (λ h. let l = (reached_laws st.limit m reach).earlier_held a b h in (omega arith, omega arith))
      (λ p q. (reached_labels st.limit m reach).earlier_is a b (omega arith) (omega arith) ∙ sym (ap₂ left (told a p) (told b q)))

-- what a call makes of the book st, of the order that it stands for, and of its tree
module _ (st st₂ : State) (w : TreeSound st) (call : Order → Order) where
  pub call_kept : Plain st₂ → (reach : Reached st₂.limit (call w.order)) → st₂.steps ≡ (call w.order).steps
      → ((x : ℕ) → x < st₂.steps → step_label st₂ x ≡ (tree_of reach).step x)
      → ((p : ℕ) → p < 2 * st₂.steps → Node st₂ (st₂.link p).up)
      → (((a b : ℕ) → (tree_order st₂).before a b ≡ (call (tree_order st)).before a b)
      → ((a b : ℕ) → (tree_order st₂).earlier a b ≡ (call (tree_order st)).earlier a b) → tree_order st₂ ≡ call (tree_order st))
      → Grew st₂ (call w.order) (tree_of reach)
  call_kept plain reach same told nodes tell =
      let e : tree_order st₂ ≡ call (tree_order st) = tell
      (λ a b. before_told st₂ (call w.order) reach same told a b ∙ ap (λ (m : Order). (call m).before a b) (sym w.means))
      (λ a b. earlier_told st₂ (call w.order) reach same told a b ∙ ap (λ (m : Order). (call m).earlier a b) (sym w.means)) in
      record {
        sound = record { plain = plain; order = call w.order; reach = reach; means = e ∙ ap call w.means; told = told; nodes = nodes };
        order_is = refl;
        tree_is = refl;
      }

  -- it stands for what the call makes of the order
  pub call_stands : (z : Tree) → Grew st₂ (call w.order) z → StandsFor TreeSound tree_plan st₂ (call (tree_order st))
  call_stands z g = (g.sound, g.sound.means ∙ (g.order_is ∙ ap call (sym w.means)))
