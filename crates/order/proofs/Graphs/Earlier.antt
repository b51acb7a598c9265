-- The fork at which the ways back from two steps meet tells which is earlier.
use Rattle.std.proofs.Props.{props}
use Rattle.std.proofs.Math.Logic.{∥∥₁_elim}
use Rattle.std.proofs.Common.{◌≡◌, ◌≢◌, ℕ, zero, suc, ◌<◌, ◌⊎◌, inl, inr, nat_lt, refl, sym, ap, ◌∙◌, arith}
use Rattle.order.specs.declared.record.Link.{Link}
use Rattle.order.specs.declared.book.climb.Fork.{Fork}
use Rattle.order.specs.States.{State, place}
use Rattle.order.specs.Forks.{Below, Forked}
use Rattle.edges.specs.Ways.{ways_of}
use Rattle.order.specs.Graphs.{GraphSound, graph_order}
use Rattle.order.proofs.Graphs.Labels.{label_is_way, left_of_labels}
use Rattle.order.proofs.Keeping.Agree.{of_held}
use Rattle.order.proofs.Climbs.Relating.{top_some, earlier_is_too}

module _ (st : State) (w : GraphSound st) where
  abbrev link : ℕ → Link
  link = st.link

  -- a step's place, or place 0
  abbrev Stands : ℕ → Type 0
  Stands p = ((x : ℕ) × (x < st.steps) × (p ≡ place x)) ⊎ (p ≡ 0)

  -- a step but the first comes from an earlier one; the first hangs from place 0, by the turn 0
  up_stands : (q : ℕ) → Stands q → 0 < q → Stands (link q).up
  up_stands q (inl (zero, h, e)) l =
      inr (omega (arith, w.plain.hung (place 0) (omega arith) (omega (arith, h)), ap (λ z. (link z).up) e))
  up_stands q (inl (suc x, h, e)) l =
      let k : (link q).up ≡ place ((ways_of w.reach).from (suc x)) = ap (λ z. (link z).up) e ∙ ap Link.up (w.from_told (suc x) (omega arith) h) in
      inl ((ways_of w.reach).from (suc x), omega (arith, k, e, w.plain.hung q l (omega (arith, e, h))), k)
  up_stands q (inr e) l = absurd (omega (arith, e, l))

  above : (p q : ℕ) → Below link p q → Stands q → Stands p
  above p _ Below.here s = s
  above p _ (Below.from_up q l b) s = above p (link q).up b (up_stands q s l)

  -- the turn of a step is its number
  turn_told : (p : ℕ) → 0 < p → Stands p → p ≡ place (link p).turn
  turn_told p l (inl (zero, h, e)) = omega (arith, e, ap (λ z. (link z).turn) e, w.plain.turned (place 0) (omega (arith, h)))
  turn_told p l (inl (suc x, h, e)) =
      e ∙ sym (ap (λ z. place (link z).turn) e ∙ ap (λ (k : Link). place k.turn) (w.from_told (suc x) (omega arith) h))
  turn_told p l (inr e) = absurd (omega (arith, e, l))

  distinct : (a b : ℕ) → a < st.steps → b < st.steps → (p q : ℕ) → Below link p (place a) → Below link q (place b) → 0 < p → 0 < q
      → (link p).up ≡ (link q).up → (link p).turn ≡ (link q).turn → p ≡ q
  distinct a b h k p q s t l m e f =
      turn_told p l (above p (place a) s (inl (a, h, refl))) ∙ (ap place f ∙ sym (turn_told q m (above q (place b) t (inl (b, k, refl)))))

  turns : (b : ℕ) → b < st.steps → (p : ℕ) → 0 < p → Below link p (place b) → (link p).up ≢ 0 → (link p).turn ≢ 0
  turns b k p l s d e =
      let q = above p (place b) s (inl (b, k, refl)) in
      d (omega (arith, turn_told p l q, e, w.plain.hung p l (omega (arith, turn_told p l q, e, k))))

  pub earlier_told : (a b : ℕ) → a < st.steps → b < st.steps → (r : Fork) → Forked link (place a) (place b) r
      → nat_lt r.left r.right ≡ (graph_order st).earlier a b
  earlier_told a b h k r f =
      let own = distinct a b h k in
      let some = top_some link (place a) (place b) r f own 0 _ _ (label_is_way st w a h) (label_is_way st w b k) in
      let e = earlier_is_too link (place a) (place b) r f own (turns b k) some in
      of_held st.steps a b _ _ h k (sym (left_of_labels st w a b h k) ∙ e)

pub earlier_by : (st : State) → ∥ GraphSound st ∥₁ → (a b : ℕ) → a < st.steps → b < st.steps → (r : Fork) → Forked st.link (place a) (place b) r
    → nat_lt r.left r.right ≡ (graph_order st).earlier a b
earlier_by st w a b h k r f = ∥∥₁_elim w (Prim.hlevel props) (λ v. earlier_told st v a b h k r f)
