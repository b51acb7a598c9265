-- Serial order is told by the ways to the steps.
use Rattle.std.proofs.Common.{◌≡◌, ℕ, zero, suc, ◌+◌, ◌<◌, ◌≤◌, true, false, T, ◌⊎◌, [], ◌∷◌, ◌++◌, sym, refl, ap, ap₂, subst, ◌∙◌, inl, inr, arith}
use Rattle.std.proofs.lemmas.Bool.{cases_eq, cases_lt}
use Rattle.std.proofs.lemmas.Bool.Decides.{nat_tests}
use Rattle.std.specs.Prelude.{nat_lt}
use Rattle.model.specs.Orders.{Order, earlier_with}
use Rattle.model.specs.Reached.{Reached, start, by_spawn, by_open, by_close, by_end}
use Rattle.model.specs.Labels.{Label, left, Under}
use Rattle.model.proofs.Trees.Labels.{left_none, left_same, under_cut}
use Rattle.model.proofs.Trees.Reached.{reached_laws}
use Rattle.model.proofs.Linking.Earlier.{with_old, with_new}
use Rattle.edges.specs.Ways.{Ways, unwalked, spawn_ways, next_ways, close_ways, ways_of, way}
use Rattle.edges.proofs.Links.{Grown, spawn_grown, next_grown, close_grown, from_less, way_step, way_old, way_fresh, from_before}

-- what does not lie under s sees s and all that lies under s alike
past_left : (a s z : Label) → (Under s a → ⊥) → left a (s ++ z) ≡ left a s
past_left [] [] z n = absurd (n ([], refl))
past_left [] (y ∷ s) z n = refl
past_left (x ∷ a) [] z n = absurd (n (x ∷ a, refl))
past_left (x ∷ a) (y ∷ s) z n = grind (arith, past_left a s z)

past_right : (a s z : Label) → (Under s a → ⊥) → left (s ++ z) a ≡ left s a
past_right [] [] z n = absurd (n ([], refl))
past_right [] (y ∷ s) z n = refl
past_right (x ∷ a) [] z n = absurd (n (x ∷ a, refl))
past_right (x ∷ a) (y ∷ s) z n = grind (arith, past_right a s z)

-- what ends where the other goes on is to the left
left_self : (s : Label) (x : ℕ) → left s (s ++ (x ∷ [])) ≡ true
left_self [] x = refl
left_self (y ∷ s) x = grind (arith, left_self s x)

left_off : (s : Label) (x : ℕ) → left (s ++ (x ∷ [])) s ≡ false
left_off [] x = refl
left_off (y ∷ s) x = grind (arith, left_off s x)

-- of two labels with one number each
left_one : (a b : ℕ) → left (a ∷ []) (b ∷ []) ≡ nat_lt a b
left_one a b = grind (arith, nat_tests)

-- the last number of a label, or 0
abbrev end_of : Label → ℕ
end_of [] = 0
end_of (x ∷ []) = x
end_of (x ∷ (y ∷ a)) = end_of (y ∷ a)

end_at : (a : Label) (x : ℕ) → end_of (a ++ (x ∷ [])) ≡ x
end_at [] x = refl
end_at (y ∷ []) x = refl
end_at (y ∷ (z ∷ a)) x = end_at (z ∷ a) x

under_none : (a : Label) → Under a [] → a ≡ []
under_none [] u = refl
under_none (x ∷ a) u = cc u.1

module _ (limit : ℕ) (m : Order) (r : Reached limit m) where
  -- a way ends in the step it leads to
  way_end : (x : ℕ) → x < m.steps → end_of (way (ways_of r) x) ≡ x
  way_end zero l = refl
  way_end (suc k) l =
      ap end_of (way_step limit m r (suc k) (omega arith) l) ∙ end_at (way (ways_of r) ((ways_of r).from (suc k))) (suc k)

  -- each step has a way of its own
  pub way_apart : (x y : ℕ) → x < m.steps → y < m.steps → way (ways_of r) x ≡ way (ways_of r) y → x ≡ y
  way_apart x y l k e = sym (way_end x l) ∙ ap end_of e ∙ way_end y k

  -- a step whose way goes by s is s or after it
  pub way_after : (k s x : ℕ) → x ≤ k → s < m.steps → x < m.steps
      → Under (way (ways_of r) s) (way (ways_of r) x) → (s ≡ x) ⊎ T (m.before s x)
  way_after k s zero b l h u = inl (way_apart s 0 l h (under_none (way (ways_of r) s) u))
  way_after zero s (suc j) b l h u = absurd (omega arith)
  way_after (suc k) s (suc j) b l h u = elim (cases_eq s (suc j)) [
    | inl e ↦ inl e
    | inr n ↦ (let y = (ways_of r).from (suc j) in
        let d : y < suc j = from_less limit m r (suc j) (omega arith) h in
        let before = from_before limit m r (suc j) (omega arith) h in
        let step = way_step limit m r (suc j) (omega arith) h in
        let v = under_cut (way (ways_of r) s) (way (ways_of r) y) (suc j) (subst (Under (way (ways_of r) s)) step u)
        (λ e. n (way_apart s (suc j) l h (e ∙ sym step))) in
        elim (way_after k s y (omega arith) l (omega arith) v) [
          | inl e ↦ inr (subst (λ z. T (m.before z (suc j))) (sym e) before)
          | inr t ↦ inr ((reached_laws limit m r).before_trans s y (suc j) t before)
        ])
  ]

  -- no other way goes by the step that a running task is on
  way_clear : (t x : ℕ) → T (m.task t).running → x < m.steps → ((m.task t).current ≡ x → ⊥)
      → Under (way (ways_of r) (m.task t).current) (way (ways_of r) x) → ⊥
  way_clear t x run l n u =
      let laws = reached_laws limit m r in
      elim (way_after x (m.task t).current x (omega arith) (laws.current_held t run) l u) [
        | inl e ↦ n e
        | inr b ↦ laws.current_last t x run b
      ]

-- what labels say of serial order
abbrev Told : Order → (ℕ → Label) → Type 0
Told m lab = (a b : ℕ) → a < m.steps → b < m.steps → m.earlier a b ≡ left (lab a) (lab b)

-- no step is earlier than itself
with_same : (m : Order) (s new a : ℕ) → earlier_with m s new a a ≡ false
with_same m s new a = grind (arith, nat_tests)

-- a new step stands straight after s, seen from a step held
with_to : (m : Order) (s new x n : ℕ) → m.steps ≤ n → n < m.steps + new → s < m.steps → x < m.steps → (s ≡ x → ⊥)
    → earlier_with m s new x n ≡ m.earlier x s
with_to m s new x n l l' p q d = grind (arith, nat_tests)

with_after : (m : Order) (s new n : ℕ) → m.steps ≤ n → n < m.steps + new → s < m.steps → earlier_with m s new s n ≡ true
with_after m s new n l l' p = grind (arith, nat_tests)

with_back : (m : Order) (s new n : ℕ) → m.steps ≤ n → n < m.steps + new → s < m.steps → earlier_with m s new n s ≡ false
with_back m s new n l l' p = grind (arith, nat_tests)

-- new steps have their own order
with_news : (m : Order) (s new a b : ℕ) → m.steps ≤ a → a < m.steps + new → m.steps ≤ b → b < m.steps + new
    → earlier_with m s new a b ≡ nat_lt a b
with_news m s new a b p p' q q' = grind (arith, nat_tests)

-- new steps that lie straight under the label of s, with nothing else there
module _ (m : Order) (s new : ℕ) (lab more : ℕ → Label) (l : s < m.steps) (told : Told m lab)
    (clear : (x : ℕ) → x < m.steps → (s ≡ x → ⊥) → Under (lab s) (lab x) → ⊥)
    (old : (x : ℕ) → x < m.steps → more x ≡ lab x)
    (fresh : (x : ℕ) → m.steps ≤ x → x < m.steps + new → more x ≡ lab s ++ (x ∷ [])) where
  -- what the labels say of a and b
  abbrev Here : ℕ → ℕ → Type 0
  Here a b = earlier_with m s new a b ≡ left (more a) (more b)

  here_old : (a b : ℕ) → a < m.steps → b < m.steps → Here a b
  here_old a b p q = elim (cases_eq a b) [
    | inl e ↦ ap (earlier_with m s new a) (sym e) ∙ with_same m s new a ∙ sym (left_none (more a) (more b) (ap more e))
    | inr n ↦ with_old m s new a b p q n ∙ told a b p q ∙ ap₂ left (sym (old a p)) (sym (old b q))
  ]

  here_to : (a b : ℕ) → a < m.steps → m.steps ≤ b → b < m.steps + new → Here a b
  here_to a b p q q' = elim (cases_eq s a) [
    | inl e ↦ subst (λ z. Here z b) e (with_after m s new b q q' l ∙ sym (left_self (lab s) b)
        ∙ ap₂ left (sym (old s l)) (sym (fresh b q q')))
    | inr n ↦ with_to m s new a b q q' l p n ∙ told a s p l ∙ sym (past_left (lab a) (lab s) (b ∷ []) (clear a p n))
        ∙ ap₂ left (sym (old a p)) (sym (fresh b q q'))
  ]

  here_from : (a b : ℕ) → m.steps ≤ a → a < m.steps + new → b < m.steps → Here a b
  here_from a b p p' q = elim (cases_eq s b) [
    | inl e ↦ subst (Here a) e (with_back m s new a p p' l ∙ sym (left_off (lab s) a)
        ∙ ap₂ left (sym (fresh a p p')) (sym (old s l)))
    | inr n ↦ with_new m s new a b p p' l q n ∙ told s b l q ∙ sym (past_right (lab b) (lab s) (a ∷ []) (clear b q n))
        ∙ ap₂ left (sym (fresh a p p')) (sym (old b q))
  ]

  here_both : (a b : ℕ) → m.steps ≤ a → a < m.steps + new → m.steps ≤ b → b < m.steps + new → Here a b
  here_both a b p p' q q' =
      with_news m s new a b p p' q q' ∙ sym (left_one a b) ∙ sym (left_same (lab s) (a ∷ []) (b ∷ []))
      ∙ ap₂ left (sym (fresh a p p')) (sym (fresh b q q'))

  told_with : (a b : ℕ) → a < m.steps + new → b < m.steps + new → Here a b
  told_with a b p q = elim (cases_lt a m.steps) [
    | inl x ↦ elim (cases_lt b m.steps) [ inl y ↦ here_old a b x y | inr y ↦ here_to a b x y q ]
    | inr x ↦ elim (cases_lt b m.steps) [ inl y ↦ here_from a b x p y | inr y ↦ here_both a b x p y q ]
  ]

-- a call of a running task that makes new steps from its current one
call_told : (limit : ℕ) (m : Order) (r : Reached limit m) (t new : ℕ) (v : Ways) → T (m.task t).running
    → Grown m.steps new (m.task t).current (ways_of r) v → Told m (way (ways_of r)) → (a b : ℕ) → a < m.steps + new → b < m.steps + new
    → earlier_with m (m.task t).current new a b ≡ left (way v a) (way v b)
call_told limit m r t new v run g told =
    let held = (reached_laws limit m r).current_held t run in
    told_with m (m.task t).current new (way (ways_of r)) (way v) held told (λ x. way_clear limit m r t x run)
    (λ x. way_old m.steps new (m.task t).current (ways_of r) v g (from_less limit m r) x x)
    (way_fresh m.steps new (m.task t).current (ways_of r) v g held (from_less limit m r))

-- of two steps, the earlier one is on the way to the other, or turns to the step made first where their ways part
pub earlier_by_ways : (limit : ℕ) (m : Order) (r : Reached limit m) (a b : ℕ) → a < m.steps → b < m.steps
    → m.earlier a b ≡ left (way (ways_of r) a) (way (ways_of r) b)
earlier_by_ways limit m start a b p q =
    let e : a ≡ b = omega arith in
    sym (left_none (way unwalked a) (way unwalked b) (ap (way unwalked) e))
earlier_by_ways limit m (by_spawn o t r run) a b p q =
    call_told limit o r t 2 (spawn_ways o t (ways_of r)) run (spawn_grown o t (ways_of r)) (earlier_by_ways limit o r) a b p q
earlier_by_ways limit m (by_open o t r run) a b p q =
    call_told limit o r t 1 (next_ways o t (ways_of r)) run (next_grown o t (ways_of r)) (earlier_by_ways limit o r) a b p q
earlier_by_ways limit m (by_close o t f g fs r run own none) a b p q =
    call_told limit o r t 1 (close_ways o t (ways_of r)) run (close_grown o t (ways_of r)) (earlier_by_ways limit o r) a b p q
earlier_by_ways limit m (by_end o t f r run own) a b p q = earlier_by_ways limit o r a b p q
