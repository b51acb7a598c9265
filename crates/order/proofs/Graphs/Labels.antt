-- In the graph keeper's book, the label of a step's place is the way to the step, behind the turn by which step 0 hangs.
use Rattle.std.proofs.Common.{◌≡◌, ℕ, zero, suc, ◌<◌, ◌≤◌, [], ◌∷◌, ◌++◌, ap, ap₂, sym, ◌∙◌, arith}
use Rattle.model.specs.Labels.{Label, left}
use Rattle.order.specs.declared.record.Link.{Link}
use Rattle.order.specs.States.{State, place}
use Rattle.order.specs.Forks.{label}
use Rattle.edges.specs.Ways.{way}
use Rattle.order.specs.Graphs.{GraphSound, ways_in}
use Rattle.order.proofs.Climbs.Places.{label_up, label_none}
use Rattle.edges.proofs.Links.{way_last}
use Rattle.order.proofs.Graphs.Searching.{falls_back}

module _ (st : State) (g : GraphSound st) where
  label_first : label st.link 1 ≡ 0 ∷ []
  label_first =
      let held = g.plain.steps_held in
      let up = g.plain.hung 1 (omega arith) (omega (arith, held)) in
      let turn : (st.link 1).turn ≡ 0 = omega (arith, g.plain.turned 1 (omega (arith, held))) in
      label_up st.link 1 up ∙ ap₂ (λ (a : Label) n. a ++ (n ∷ [])) (label_none st.link (st.link 1).up (omega (arith, up))) turn

  label_is_way_to : (n x : ℕ) → x ≤ n → x < st.steps → label st.link (place x) ≡ 0 ∷ way (ways_in st) x
  label_is_way_to n zero l h = label_first
  label_is_way_to zero (suc x) l h = absurd (omega (arith, l))
  label_is_way_to (suc n) (suc x) l h =
      let w = ways_in st in
      let back = falls_back st g (suc x) (omega arith) h in
      let told = g.from_told (suc x) (omega arith) h in
      let up : (st.link (place (suc x))).up ≡ place (w.from (suc x)) = omega (arith, ap Link.up told) in
      label_up st.link (place (suc x)) (omega (arith, up, back))
      ∙ ap₂ (λ (a : Label) k. a ++ (k ∷ [])) (ap (label st.link) up ∙ label_is_way_to n (w.from (suc x)) (omega (arith, l, back)) (omega (arith, h, back))) (ap Link.turn told)
      ∙ ap (λ a. 0 ∷ a) (sym (way_last w st.steps (falls_back st g) (suc x) (omega arith) h))

  -- the label of a held step
  pub label_is_way : (x : ℕ) → x < st.steps → label st.link (place x) ≡ 0 ∷ way (ways_in st) x
  label_is_way x l = label_is_way_to x x (omega arith) l

  -- two of them stand as the ways do
  pub left_of_labels : (a b : ℕ) → a < st.steps → b < st.steps
      → left (label st.link (place a)) (label st.link (place b)) ≡ left (way (ways_in st) a) (way (ways_in st) b)
  left_of_labels a b l m = ap₂ left (label_is_way a l) (label_is_way b m)
