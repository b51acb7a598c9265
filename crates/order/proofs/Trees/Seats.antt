-- One step more is seated: places and labels of old steps stay, the new step has a label by its seat, and all still hangs from nodes.
use Rattle.std.proofs.lemmas.Bool.{cases_eq, cases_lt}
use Rattle.std.proofs.Common.{◌≡◌, ℕ, ◌+◌, ◌*◌, ◌<◌, ◌≤◌, [], ◌∷◌, ◌++◌, inl, inr, ◌⊎◌, sym, refl, ap, ◌∙◌, subst, append_assoc, arith}
use Rattle.model.specs.Lists.{put}
use Rattle.model.specs.Labels.{Label}
use Rattle.order.specs.declared.record.Link.{Link}
use Rattle.order.specs.declared.record.Seat.{Seat}
use Rattle.order.specs.States.{State, place, seated}
use Rattle.order.specs.Forks.{label}
use Rattle.order.specs.Trees.{Node, step_label}
use Rattle.order.proofs.Books.Writes.{put_at, put_off}
use Rattle.order.proofs.Climbs.Places.{label_up, label_kept}

-- st₂ has one step more than st, which is seated by `seat`
pub record Seating (st st₂ : State) (seat : Seat) : Type 0 where
  pub more : st₂.steps ≡ st.steps + 1
  pub link_is : st₂.link ≡ seated st.link st.steps seat

module _ {st st₂ : State} {seat : Seat} (g : Seating st st₂ seat) where
  pub leaf_new : st₂.link (place st.steps) ≡ seat.leaf
  leaf_new = ap (λ f. f (place st.steps)) g.link_is ∙ put_at (put st.link (2 * st.steps) seat.node) (place st.steps) seat.leaf (place st.steps) refl

  pub node_new : st₂.link (2 * st.steps) ≡ seat.node
  node_new =
      ap (λ f. f (2 * st.steps)) g.link_is
      ∙ (put_off (put st.link (2 * st.steps) seat.node) (place st.steps) seat.leaf (2 * st.steps) (λ e. omega arith)
      ∙ put_at st.link (2 * st.steps) seat.node (2 * st.steps) refl)

  pub link_old : (p : ℕ) → p < 2 * st.steps → st₂.link p ≡ st.link p
  link_old p h =
      ap (λ f. f p) g.link_is
      ∙ (put_off (put st.link (2 * st.steps) seat.node) (place st.steps) seat.leaf p (λ e. omega arith)
      ∙ put_off st.link (2 * st.steps) seat.node p (λ e. omega arith))

  pub label_old : (p : ℕ) → p < 2 * st.steps → label st₂.link p ≡ label st.link p
  label_old p h = label_kept st.link st₂.link (2 * st.steps) link_old p p h

  pub node_old : (p : ℕ) → Node st p → Node st₂ p
  node_old p (x, h, e, l) = (x, omega (arith, g.more), e, link_old (place x) (omega arith) ∙ l)

  -- the new step and the old ones have their labels, those of `lab`
  pub labels_more : (lab : ℕ → Label) (m : ℕ) (new : Label) → st.steps ≡ m → ((x : ℕ) → x < st.steps → step_label st x ≡ lab x)
      → step_label st₂ st.steps ≡ new → (x : ℕ) → x < st₂.steps → step_label st₂ x ≡ put lab m new x
  labels_more lab m new e old fresh x h = go (cases_eq x st.steps)
    where
      go : (x ≡ st.steps) ⊎ (x ≡ st.steps → ⊥) → step_label st₂ x ≡ put lab m new x
      go (inl d) = ap (step_label st₂) d ∙ (fresh ∙ sym (put_at lab m new x (d ∙ e)))
      go (inr d) =
          let l : x < st.steps = omega (arith, g.more) in
          label_old (place x) (omega arith) ∙ (old x l ∙ sym (put_off lab m new x (λ c. d (c ∙ sym e))))

  -- all hangs from nodes, if the new places do
  pub nodes_more : ((p : ℕ) → p < 2 * st.steps → Node st (st.link p).up) → Node st₂ seat.node.up → Node st₂ seat.leaf.up
      → (p : ℕ) → p < 2 * st₂.steps → Node st₂ (st₂.link p).up
  nodes_more old a b p h = go (cases_lt p (2 * st.steps)) (cases_eq p (2 * st.steps))
    where
      by : (l : Link) → st₂.link p ≡ l → Node st₂ l.up → Node st₂ (st₂.link p).up
      by l e n = subst (λ (k : Link). Node st₂ k.up) (sym e) n

      go : (p < 2 * st.steps) ⊎ (2 * st.steps ≤ p) → (p ≡ 2 * st.steps) ⊎ (p ≡ 2 * st.steps → ⊥) → Node st₂ (st₂.link p).up
      go (inl l) d = by (st.link p) (link_old p l) (node_old (st.link p).up (old p l))
      go (inr l) (inl e) = by seat.node (ap st₂.link e ∙ node_new) a
      go (inr l) (inr d) = let e : p ≡ place st.steps = omega (arith, g.more) in by seat.leaf (ap st₂.link e ∙ leaf_new) b

  -- the label of the new step, if it hangs from an old place by the turn k
  pub label_beside : (u k : ℕ) → u < 2 * st.steps → seat.leaf ≡ record { up = u; turn = k }
      → step_label st₂ st.steps ≡ label st.link u ++ (k ∷ [])
  label_beside u k h e =
      let l : st₂.link (place st.steps) ≡ record { up = u; turn = k } = leaf_new ∙ e in
      label_up st₂.link (place st.steps) (omega (arith, ap Link.up l))
      ∙ (ap (λ (z : Link). label st₂.link z.up ++ (z.turn ∷ [])) l ∙ ap (λ z. z ++ (k ∷ [])) (label_old u h))

  -- if it is the first under a new node, which hangs from an old place by the turn k
  pub label_within : (u k : ℕ) → u < 2 * st.steps → seat.node ≡ record { up = u; turn = k } → seat.leaf ≡ record { up = 2 * st.steps; turn = 0 }
      → step_label st₂ st.steps ≡ label st.link u ++ (k ∷ (0 ∷ []))
  label_within u k h d e =
      let n : st₂.link (2 * st.steps) ≡ record { up = u; turn = k } = node_new ∙ d in
      let l : st₂.link (place st.steps) ≡ record { up = 2 * st.steps; turn = 0 } = leaf_new ∙ e in
      label_up st₂.link (place st.steps) (omega (arith, ap Link.up l))
      ∙ (ap (λ (z : Link). label st₂.link z.up ++ (z.turn ∷ [])) l
      ∙ (ap (λ z. z ++ (0 ∷ [])) (label_up st₂.link (2 * st.steps) (omega (arith, ap Link.up n)))
      ∙ (ap (λ (z : Link). (label st₂.link z.up ++ (z.turn ∷ [])) ++ (0 ∷ [])) n
      ∙ (ap (λ z. (z ++ (k ∷ [])) ++ (0 ∷ [])) (label_old u h) ∙ append_assoc (label st.link u) (k ∷ []) (0 ∷ [])))))

  -- a new node is one, if its step is the first under it
  pub node_within : seat.leaf ≡ record { up = 2 * st.steps; turn = 0 } → Node st₂ (2 * st.steps)
  node_within e = (st.steps, omega (arith, g.more), refl, leaf_new ∙ e)
