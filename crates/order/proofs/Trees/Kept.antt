-- Each call of a sound tree keeps it sound, and makes of its order and of its tree what the call makes of these.
use Rattle.std.proofs.Common.{◌≡◌, ℕ, ◌+◌, ◌*◌, ◌<◌, ◌≤◌, ◌^◌, true, cond, T, List, [], ◌∷◌, ◌++◌, sym, refl, ap, ap₂, ◌∙◌, subst, nat_lt, arith}
use Rattle.model.specs.Lists.{head_or, put}
use Rattle.model.specs.Orders.{Order, Task, emptied, spawned, opened, closed, done}
use Rattle.model.specs.Labels.{Label, child_of, next_of, inner_of}
use Rattle.model.specs.Reached.{start, by_spawn, by_open, by_close, by_end}
use Rattle.model.specs.Trees.{Tree, planted, spawn_tree, open_tree, close_tree, tree_of}
use Rattle.order.specs.declared.record.Link.{Link}
use Rattle.order.specs.Rows.{no_link}
use Rattle.order.specs.States.{State, Cleared, seated, chain, end_book}
use Rattle.order.specs.Plans.{Keeps, spawn_by, open_by, close_by}
use Rattle.order.specs.Forks.{label}
use Rattle.order.specs.Trees.{TreeSound, Node, step_label, tree_order, leaf_of, in_node, right_of, tree_plan}
use Rattle.order.specs.Grown.{Grew}
use Rattle.order.proofs.Books.Telling.{Ready, Fits, cleared_plain, spawn_told, open_told, close_told, end_told, spawn_plain, open_plain, close_plain, end_plain, none_lives, finishes_told}
use Rattle.order.proofs.Keeping.Ready.{keeps_by}
use Rattle.order.proofs.Books.Starting.{cleared_told}
use Rattle.order.proofs.Climbs.Places.{label_up}
use Rattle.order.proofs.Trees.Seats.{Seating, label_old, node_old, labels_more, nodes_more, label_beside, label_within, node_within}
use Rattle.order.proofs.Trees.Told.{over_of, left_of, before_told, earlier_told, call_kept, call_stands}
use Rattle.order.proofs.Trees.Here.{Here, here, child_at, next_at, inner_at, next_turn, up_old, in_fits, right_fits, in_finish}

-- what calls make of a book by the plan

abbrev tree_spawn : State → ℕ → State
tree_spawn = spawn_by tree_plan

abbrev tree_open : State → ℕ → State
tree_open = open_by tree_plan

abbrev tree_close : State → ℕ → State
tree_close = close_by tree_plan

pub tree_cleared : (limit : ℕ) (st : State) → Cleared limit st → 0 < limit → limit ≤ 2 ^ 62 → Grew st (emptied limit) planted
tree_cleared limit st c a b = record {
  sound = record { plain = cleared_plain limit st c a b; order = emptied st.limit; reach = start; means = means; told = told; nodes = nodes };
  order_is = ap emptied c.limit_is;
  tree_is = refl;
}
  where
    told : (x : ℕ) → x < st.steps → step_label st x ≡ 0 ∷ []
    told x h =
        let e : x ≡ 0 = omega (arith, c.steps_is) in
        ap (step_label st) e ∙ ap (λ (l : Link). cond (nat_lt l.up 1) (l.turn ∷ []) []) c.leaf_is

    root : (p : ℕ) → st.link p ≡ no_link → Node st (st.link p).up
    root p e = (0, omega (arith, c.steps_is), ap Link.up e, c.leaf_is)

    nodes : (p : ℕ) → p < 2 * st.steps → Node st (st.link p).up
    nodes ℕ.zero h = root 0 c.node_is
    nodes (ℕ.suc q) h = let e : ℕ.suc q ≡ 1 = omega (arith, c.steps_is) in root (ℕ.suc q) (ap st.link e ∙ c.leaf_is)

    means : tree_order st ≡ emptied st.limit
    means =
        cleared_told st.limit st (subst (λ l. Cleared l st) (sym c.limit_is) c) (over_of st) (left_of st)
        (before_told st (emptied st.limit) start c.steps_is told) (earlier_told st (emptied st.limit) start c.steps_is told)

module _ (st : State) (w : TreeSound st) (t : ℕ) where
  -- the tree that was grown
  abbrev grown : Tree
  grown = tree_of w.reach

  -- the label of the step that t is on
  abbrev at : Label
  at = grown.step (w.order.task t).current

  abbrev up : ℕ
  up = (leaf_of st t).up

  abbrev turn : ℕ
  turn = (leaf_of st t).turn

  module _ (h : Here st w t) where
    -- the child's step is seated, and not yet the spawner's
    abbrev mid : State
    mid = record st { steps = st.steps + 1; link = seated st.link st.steps (in_node st t 1) }

    first : Seating st mid (in_node st t 1)
    first = record { more = refl; link_is = refl }

    second : Seating mid (tree_spawn st t) (right_of (leaf_of st t))
    second = record { more = omega arith; link_is = refl }

    abbrev lab : ℕ → Label
    lab = put grown.step w.order.steps (child_of at)

    told_mid : (x : ℕ) → x < st.steps + 1 → step_label mid x ≡ lab x
    told_mid =
        labels_more first grown.step w.order.steps (child_of at) h.steps_is w.told
        (label_within first up (turn + 1) (up_old h) refl refl ∙ sym (child_at h))

    spawn_labels : (x : ℕ) → x < st.steps + 2 → step_label (tree_spawn st t) x ≡ put lab (w.order.steps + 1) (next_of at) x
    spawn_labels =
        labels_more second lab (w.order.steps + 1) (next_of at) (ap (λ n. n + 1) h.steps_is) told_mid
        (label_beside second up (turn + 2) (omega arith) refl
        ∙ (ap (λ z. z ++ ((turn + 2) ∷ [])) (label_old first up (up_old h)) ∙ sym (next_at h)))

    spawn_nodes : (p : ℕ) → p < 2 * (st.steps + 2) → Node (tree_spawn st t) ((tree_spawn st t).link p).up
    spawn_nodes =
        let n = node_old first up h.node in
        nodes_more second (nodes_more first w.nodes n (node_within first refl)) (node_old second 0 (node_old first 0 h.root))
        (node_old second up n)

  pub tree_spawned : Ready st t 2 → Grew (tree_spawn st t) (spawned w.order t) (spawn_tree w.order t grown)
  tree_spawned y =
      let h = here st w t y.held y.runs in
      call_kept st (tree_spawn st t) w (λ m. spawned m t)
      (spawn_plain st w.plain t (in_node st t 1) (right_of (leaf_of st t)) y (in_fits h 1 (omega arith))
      (right_fits (leaf_of st t) (st.steps + 1) (omega arith) (omega arith)))
      (by_spawn w.order t w.reach h.run) (ap (λ n. n + 2) h.steps_is) (spawn_labels h) (spawn_nodes h)
      (spawn_told st w.plain t (over_of st) (left_of st) (over_of (tree_spawn st t)) (left_of (tree_spawn st t)) (in_node st t 1)
      (right_of (leaf_of st t)) y)

  pub tree_opened : Ready st t 1 → Grew (tree_open st t) (opened w.order t) (open_tree w.order t grown)
  tree_opened y =
      let h = here st w t y.held y.runs in
      let g : Seating st (tree_open st t) (in_node st t 2) = record { more = refl; link_is = refl } in
      call_kept st (tree_open st t) w (λ m. opened m t) (open_plain st w.plain t (in_node st t 2) y (in_fits h 2 (omega arith)))
      (by_open w.order t w.reach h.run) (ap (λ n. n + 1) h.steps_is)
      (labels_more g grown.step w.order.steps (inner_of at) h.steps_is w.told
      (label_within g up (turn + 2) (up_old h) refl refl ∙ sym (inner_at h)))
      (nodes_more g w.nodes (node_old g up h.node) (node_within g refl))
      (open_told st w.plain t (over_of st) (left_of st) (over_of (tree_open st t)) (left_of (tree_open st t)) (in_node st t 2) y)

  -- where the node hangs that the task's step hangs from
  abbrev beyond : Link
  beyond = st.link up

  abbrev closing : Seating st (tree_close st t) (right_of beyond)
  closing = record { more = refl; link_is = refl }

  module _ (h : Here st w t) (g : ℕ) (fs : List ℕ) (own : (w.order.task t).finishes ≡ (st.task t).inner ∷ (g ∷ fs)) where
    beyond_up : beyond.up < up
    beyond_up = w.plain.hung up (in_finish h (st.task t).inner g fs own).1 (up_old h)

    abbrev finish : Label
    finish = grown.finish (head_or (w.order.task t).finishes 0)

    finish_is : finish ≡ label st.link beyond.up ++ (beyond.turn ∷ [])
    finish_is =
        ap (λ f. grown.finish (head_or f 0)) own
        ∙ (sym (in_finish h (st.task t).inner g fs own).0 ∙ label_up st.link up beyond_up)

    close_label : step_label (tree_close st t) st.steps ≡ next_of finish
    close_label =
        let b = beyond_up in
        label_beside closing beyond.up (beyond.turn + 2) (omega arith) refl
        ∙ sym (next_turn finish (label st.link beyond.up) beyond.turn finish_is)

    close_fits : Fits st.steps (right_of beyond)
    close_fits =
        let b = beyond_up in
        let c = w.plain.turned up (up_old h) in
        right_fits beyond st.steps (omega arith) (omega arith)

  pub tree_closed : Ready st t 1 → 0 < (st.task t).own → (st.finish (st.task t).inner).alive ≡ 0
      → Grew (tree_close st t) (closed w.order t) (close_tree w.order t grown)
  tree_closed y o z =
      let h = here st w t y.held y.runs in
      let (g, fs, e) = finishes_told st w.plain t (over_of st) (left_of st) y.held y.runs o in
      let own = ap (λ (m : Order). (m.task t).finishes) (sym w.means) ∙ e in
      call_kept st (tree_close st t) w (λ m. closed m t) (close_plain st w.plain t (right_of beyond) y o (close_fits h g fs own))
      (by_close w.order t (st.task t).inner g fs w.reach h.run own none) (ap (λ n. n + 1) h.steps_is)
      (labels_more closing grown.step w.order.steps (next_of (finish h g fs own)) h.steps_is w.told (close_label h g fs own))
      (nodes_more closing w.nodes (node_old closing 0 h.root) (node_old closing beyond.up (w.nodes up (up_old h))))
      (close_told st w.plain t (over_of st) (left_of st) (over_of (tree_close st t)) (left_of (tree_close st t)) (right_of beyond) y o)
    where
      none : (u : ℕ) → T (w.order.lives (st.task t).inner u) → ⊥
      none u l =
          none_lives st w.plain t (over_of st) (left_of st) (st.task t).inner (w.plain.inner_held t y.held) z u
          (subst (λ (m : Order). T (m.lives (st.task t).inner u)) (sym w.means) l)

  pub tree_ended : t < st.tasks → (st.task t).running ≡ true → (st.task t).own ≡ 0 → Grew (end_book st t) (done w.order t) grown
  tree_ended l r o =
      let h = here st w t l r in
      let own = ap Task.finishes h.task_is ∙ ap₂ (λ b n. cond b (chain st.finish n (st.task t).inner) []) r o in
      call_kept st (end_book st t) w (λ m. done m t) (end_plain st w.plain t l r o)
      (by_end w.order t (st.task t).inner w.reach h.run own) h.steps_is w.told w.nodes
      (end_told st w.plain t (over_of st) (left_of st) (over_of (end_book st t)) (left_of (end_book st t)) l r o)

pub tree_keeps : Keeps TreeSound tree_plan
tree_keeps =
    keeps_by TreeSound tree_plan (λ st w. w.plain)
    (λ limit st c a b. let g = tree_cleared limit st c a b in (g.sound, g.sound.means ∙ g.order_is))
    (λ st w t y. call_stands st (tree_spawn st t) w (λ m. spawned m t) _ (tree_spawned st w t y))
    (λ st w t y. call_stands st (tree_open st t) w (λ m. opened m t) _ (tree_opened st w t y))
    (λ st w t y o z. call_stands st (tree_close st t) w (λ m. closed m t) _ (tree_closed st w t y o z))
    (λ st w t l r o. call_stands st (end_book st t) w (λ m. done m t) _ (tree_ended st w t l r o))
