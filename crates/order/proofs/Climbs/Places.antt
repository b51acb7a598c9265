-- Labels of places, and the places that are on the ways up from others.
use Rattle.std.proofs.Common.{◌≡◌, ℕ, zero, suc, ◌<◌, ◌≤◌, ◌⊎◌, [], ◌∷◌, ◌++◌, nat_lt, refl, sym, ap, ◌∙◌, inl, inr, arith}
use Rattle.std.proofs.lemmas.Bool.{cases_lt, cond-true, lt-ltb}
use Rattle.std.proofs.lemmas.Bool.Decides.{nat_tests}
use Rattle.std.proofs.lemmas.List.{append-nil}
use Rattle.model.specs.Labels.{Label, turned}
use Rattle.model.proofs.Trees.Labels.{turned_at}
use Rattle.order.specs.declared.record.Link.{Link}
use Rattle.order.specs.Forks.{label_in, label, Below}

-- any fuel will do that is at least the number of the place
pub label_fuel : (link : ℕ → Link) (k j p : ℕ) → p ≤ k → p ≤ j → label_in link k p ≡ label_in link j p
label_fuel link zero zero p a b = refl
label_fuel link zero (suc j) p a b = grind arith
label_fuel link (suc k) zero p a b = grind arith
label_fuel link (suc k) (suc j) p a b = grind (arith, label_fuel link k j)

-- the label of a place that hangs from an earlier one
pub label_up : (link : ℕ → Link) (p : ℕ) → (link p).up < p → label link p ≡ label link (link p).up ++ ((link p).turn ∷ [])
label_up link zero l = absurd (omega arith)
label_up link (suc k) l =
    let up = (link (suc k)).up in
    let turn = (link (suc k)).turn in
    cond-true (nat_lt up (suc k)) (label_in link k up ++ (turn ∷ [])) [] (lt-ltb up (suc k) l)
    ∙ ap (λ z. z ++ (turn ∷ [])) (label_fuel link k up up (omega arith) (omega arith))

-- the label of any other place, as of place 0 or of one that hangs from itself
pub label_none : (link : ℕ → Link) (p : ℕ) → p ≤ (link p).up → label link p ≡ []
label_none link zero l = refl
label_none link (suc k) l = grind (arith, nat_tests)

-- links that agree below n give the places there the same labels
pub label_kept : (link other : ℕ → Link) (n : ℕ) → ((p : ℕ) → p < n → other p ≡ link p) → (k p : ℕ) → p < n
    → label_in other k p ≡ label_in link k p
label_kept link other n same zero p h = refl
label_kept link other n same (suc k) p h = let e = same p h in grind (arith, nat_tests, label_kept link other n same k)

-- where two labels end by one turn each, what is before it is the same
pub before_turn : (p q : Label) (i j : ℕ) → p ++ (i ∷ []) ≡ q ++ (j ∷ []) → p ≡ q
before_turn p q i j e = sym (cut p i) ∙ (ap (turned (λ n. [])) e ∙ cut q j)
  where
    cut : (a : Label) (k : ℕ) → turned (λ n. []) (a ++ (k ∷ [])) ≡ a
    cut a k = turned_at (λ n. []) a k ∙ append-nil a

-- where below n each place but 0 hangs from an earlier one
pub label_hung : (link : ℕ → Link) (n : ℕ) → ((p : ℕ) → 0 < p → p < n → (link p).up < p) → (p : ℕ) → 0 < p → p < n
    → label link p ≡ label link (link p).up ++ ((link p).turn ∷ [])
label_hung link n hung p a b = label_up link p (hung p a b)

-- what is on the way up from q, and hangs from another place, has that one on the way too
pub below_up : (link : ℕ → Link) (p q : ℕ) → 0 < p → Below link p q → Below link (link p).up q
below_up link p q l Below.here = Below.from_up q l Below.here
below_up link p q l (Below.from_up q₁ k b) = Below.from_up q k (below_up link p (link q).up l b)

-- a place on the way up from b that the label q ++ (i ∷ s) of b goes by with its turn i
pub record Turned (link : ℕ → Link) (b : ℕ) (q : Label) (i : ℕ) : Type 0 where
  pub on : ℕ
  pub some : 0 < on
  pub below : Below link on b
  pub turn_is : (link on).turn ≡ i
  pub way : label link (link on).up ≡ q

-- the last turn of a label is the turn i in it, or stands after that
last_turn : (u : Label) (t : ℕ) (q : Label) (i : ℕ) (s : Label) → u ++ (t ∷ []) ≡ q ++ (i ∷ s)
    → ((u ≡ q) × (t ≡ i)) ⊎ ((v : Label) × (u ≡ q ++ (i ∷ v)))
last_turn [] t [] i s e = inl (refl, cc e)
last_turn [] t (x ∷ []) i s e = absurd (cc e)
last_turn [] t (x ∷ (y ∷ q)) i s e = absurd (cc e)
last_turn (c ∷ u) t [] i s e = inr (u, cc e)
last_turn (c ∷ u) t (x ∷ q) i s e = elim (last_turn u t q i s (cc e)) [
  | inl h ↦ inl (cc, h.1)
  | inr h ↦ inr (h.0, cc)
]

no_turn : (q : Label) (i : ℕ) (s : Label) → [] ≡ q ++ (i ∷ s) → ⊥
no_turn [] i s e = cc e
no_turn (x ∷ q) i s e = cc e

-- from the place that b hangs from
turned_up : (link : ℕ → Link) (b : ℕ) (q : Label) (i : ℕ) → 0 < b → Turned link (link b).up q i → Turned link b q i
turned_up link b q i l t = record { on = t.on; some = t.some; below = Below.from_up b l t.below; turn_is = t.turn_is; way = t.way }

turn_in : (link : ℕ → Link) (k b : ℕ) → b ≤ k → (q : Label) (i : ℕ) (s : Label) → label link b ≡ q ++ (i ∷ s)
    → Turned link b q i
turn_in link zero b m q i s e = absurd (no_turn q i s (sym (label_none link b (omega arith)) ∙ e))
turn_in link (suc k) b m q i s e = elim (cases_lt (link b).up b) [
  | inl l ↦ elim (last_turn (label link (link b).up) (link b).turn q i s (sym (label_up link b l) ∙ e)) [
    | inl h ↦ record { on = b; some = omega arith; below = Below.here; turn_is = h.1; way = h.0 }
    | inr h ↦ turned_up link b q i (omega arith) (turn_in link k (link b).up (omega arith) q i h.0 h.1)
  ]
  | inr l ↦ absurd (no_turn q i s (sym (label_none link b l) ∙ e))
]

-- each turn of a label is one of a place on the way up
pub turn_of : (link : ℕ → Link) (b : ℕ) (q : Label) (i : ℕ) (s : Label) → label link b ≡ q ++ (i ∷ s) → Turned link b q i
turn_of link b = turn_in link b b (omega arith)
