-- What a fork says of two labels, where places that hang from one have turns of their own.
use Rattle.std.proofs.Common.{◌≡◌, ◌≢◌, ℕ, zero, suc, ◌+◌, ◌<◌, not, ◌&&◌, ◌⊎◌, [], ◌∷◌, ◌++◌, length, nat_lt, refl, sym, ap, ap₂, ◌∙◌, inl, inr, arith}
use Rattle.std.proofs.lemmas.List.{append-nil, append_cancel_left, length-append}
use Rattle.std.proofs.lemmas.Bool.Decides.{nat_tests}
use Rattle.model.specs.Lists.{head_or}
use Rattle.model.specs.Labels.{Label, odd, left, over, Under}
use Rattle.model.proofs.Trees.Labels.{left_same, over_same}
use Rattle.order.specs.declared.record.Link.{Link}
use Rattle.order.specs.declared.book.climb.Fork.{Fork}
use Rattle.order.specs.Forks.{label, Below, Forked}
use Rattle.order.specs.Trees.{shared, climbed}
use Rattle.order.proofs.Climbs.Places.{turn_of}

-- one of two labels is empty, or they start with different turns
abbrev Fresh : Label → Label → Type 0
Fresh v w = (v ≡ []) ⊎ ((w ≡ []) ⊎ (head_or v 0 ≢ head_or w 0))

heads_left : (v w : Label) → Fresh v w → (v ≡ [] → head_or w 0 ≡ 0 → w ≡ [])
    → left v w ≡ nat_lt (head_or v 0) (head_or w 0)
heads_left [] [] d n = refl
heads_left [] (zero ∷ w) d n = absurd (cc (n refl refl))
heads_left [] (suc y ∷ w) d n = grind (arith, nat_tests)
heads_left (x ∷ v) [] d n = grind (arith, nat_tests)
heads_left (x ∷ v) (y ∷ w) (inl e) n = absurd (cc e)
heads_left (x ∷ v) (y ∷ w) (inr (inl e)) n = absurd (cc e)
heads_left (x ∷ v) (y ∷ w) (inr (inr d)) n = grind arith

heads_over : (v w : Label) → Fresh v w → (v ≡ [] → head_or w 0 ≡ 0 → w ≡ [])
    → over v w ≡ (nat_lt (head_or v 0) (head_or w 0) && not (odd (head_or v 0)))
heads_over [] [] d n = refl
heads_over [] (zero ∷ w) d n = absurd (cc (n refl refl))
heads_over [] (suc y ∷ w) d n = grind (arith, nat_tests)
heads_over (x ∷ v) [] d n = grind (arith, nat_tests)
heads_over (x ∷ v) (y ∷ w) (inl e) n = absurd (cc e)
heads_over (x ∷ v) (y ∷ w) (inr (inl e)) n = absurd (cc e)
heads_over (x ∷ v) (y ∷ w) (inr (inr d)) n = grind arith

heads_shared : (v w : Label) → Fresh v w → shared v w ≡ 0
heads_shared [] w d = refl
heads_shared (x ∷ v) [] d = refl
heads_shared (x ∷ v) (y ∷ w) (inl e) = absurd (cc e)
heads_shared (x ∷ v) (y ∷ w) (inr (inl e)) = absurd (cc e)
heads_shared (x ∷ v) (y ∷ w) (inr (inr d)) = grind arith

shared_same : (p v w : Label) → shared (p ++ v) (p ++ w) ≡ length p + shared v w
shared_same [] v w = omega arith
shared_same (x ∷ p) v w = grind (arith, shared_same p v w)

-- what two labels start with in common is not climbed
climbed_same : (p v w : Label) → shared v w ≡ 0 → length v + length w ≡ climbed (p ++ v) (p ++ w)
climbed_same p v w e = omega (arith, length-append p v, length-append p w, shared_same p v w)

fresh_none : (v w : Label) (i : ℕ) (x y : Label) → v ≡ i ∷ x → w ≡ i ∷ y → Fresh v w → ⊥
fresh_none v w i x y d e (inl n) = cc
fresh_none v w i x y d e (inr (inl n)) = cc
fresh_none v w i x y d e (inr (inr n)) = n (ap (λ q. head_or q 0) d ∙ sym (ap (λ q. head_or q 0) e))

-- if b goes on after the way of a ends, its label lies under that of a
pub ends_by : (link : ℕ → Link) (a b : ℕ) (r : Fork) (f : Forked link a b r)
    → (Under (label link a) (label link b) → label link a ≡ label link b) → f.rest_a ≡ [] → f.rest_b ≡ []
ends_by link a b r f alike e =
    let way : label link a ≡ label link f.top = f.way_a ∙ ap (λ z. label link f.top ++ z) e ∙ append-nil (label link f.top) in
    let same = alike (f.rest_b, f.way_b ∙ ap (λ z. z ++ f.rest_b) (sym way)) in
    append_cancel_left (label link f.top) f.rest_b []
    (sym f.way_b ∙ sym same ∙ way ∙ sym (append-nil (label link f.top)))

module _ (link : ℕ → Link) (a b : ℕ) (r : Fork) (f : Forked link a b r)
    (distinct : (p q : ℕ) → Below link p a → Below link q b → 0 < p → 0 < q → (link p).up ≡ (link q).up
    → (link p).turn ≡ (link q).turn → p ≡ q) where
  fresh : Fresh f.rest_a f.rest_b
  fresh = elim f.parts [
    | inl e ↦ inl e
    | inr (inl e) ↦ inr (inl e)
    | inr (inr p) ↦ inr (inr (λ e. p.apart (distinct p.on_a p.on_b p.below_a p.below_b p.some_a p.some_b (p.up_a ∙ sym p.up_b)
        (p.turn_a ∙ f.left_is ∙ e ∙ sym f.right_is ∙ sym p.turn_b))))
  ]

  pub links_are : r.links ≡ climbed (label link a) (label link b)
  links_are =
      f.links_are ∙ climbed_same (label link f.top) f.rest_a f.rest_b (heads_shared f.rest_a f.rest_b fresh)
      ∙ ap₂ climbed (sym f.way_a) (sym f.way_b)

  -- where the way of b goes on after that of a ends, its next turn is not 0
  before_when : (f.rest_a ≡ [] → head_or f.rest_b 0 ≡ 0 → f.rest_b ≡ [])
      → over (label link a) (label link b) ≡ (nat_lt r.left r.right && not (odd r.left))
  before_when n =
      ap₂ over f.way_a f.way_b ∙ over_same (label link f.top) f.rest_a f.rest_b ∙ heads_over f.rest_a f.rest_b fresh n
      ∙ ap₂ (λ i j. nat_lt i j && not (odd i)) (sym f.left_is) (sym f.right_is)

  earlier_when : (f.rest_a ≡ [] → head_or f.rest_b 0 ≡ 0 → f.rest_b ≡ [])
      → left (label link a) (label link b) ≡ nat_lt r.left r.right
  earlier_when n =
      ap₂ left f.way_a f.way_b ∙ left_same (label link f.top) f.rest_a f.rest_b ∙ heads_left f.rest_a f.rest_b fresh n
      ∙ ap₂ nat_lt (sym f.left_is) (sym f.right_is)

  -- where the way of b does not go on after that of a ends
  module _ (ends : f.rest_a ≡ [] → f.rest_b ≡ []) where
    pub before_is : over (label link a) (label link b) ≡ (nat_lt r.left r.right && not (odd r.left))
    before_is = before_when (λ e z. ends e)

    pub earlier_is : left (label link a) (label link b) ≡ nat_lt r.left r.right
    earlier_is = earlier_when (λ e z. ends e)

  -- labels that start with the same turn part below that
  pub top_some : (i : ℕ) (v w : Label) → label link a ≡ i ∷ v → label link b ≡ i ∷ w → label link f.top ≢ []
  top_some i v w d e n =
      fresh_none f.rest_a f.rest_b i v w (sym (f.way_a ∙ ap (λ z. z ++ f.rest_a) n) ∙ d)
      (sym (f.way_b ∙ ap (λ z. z ++ f.rest_b) n) ∙ e) fresh

  -- where the turns on the way up from b are not 0, but that of the place that hangs from place 0
  module _ (turns : (p : ℕ) → 0 < p → Below link p b → (link p).up ≢ 0 → (link p).turn ≢ 0)
      (some : label link f.top ≢ []) where
    goes_on : (w : Label) → label link b ≡ label link f.top ++ w → head_or w 0 ≡ 0 → w ≡ []
    goes_on [] e z = refl
    goes_on (y ∷ w) e z =
        let t = turn_of link b (label link f.top) y w e in
        absurd (turns t.on t.some t.below (λ u. some (sym t.way ∙ ap (label link) u)) (t.turn_is ∙ z))

    pub earlier_is_too : left (label link a) (label link b) ≡ nat_lt r.left r.right
    earlier_is_too = earlier_when (λ e z. goes_on f.rest_b f.way_b z)
