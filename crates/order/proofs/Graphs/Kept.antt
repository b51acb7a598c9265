-- Each call of a sound graph keeps it sound, and makes of its order what the call makes of an order.
use Rattle.std.proofs.Common.{◌≡◌, ℕ, zero, suc, ◌+◌, ◌-◌, ◌*◌, ◌<◌, ◌≤◌, ◌^◌, Bool, T, true, List, [], ◌∷◌, nat_lt, ap, sym, refl, subst, ◌∙◌, inl, inr, arith}
use Rattle.std.proofs.lemmas.Bool.{cases_eq, cond-true, lt-ltb}
use Rattle.model.specs.Lists.{head_or, put}
use Rattle.model.specs.Orders.{Order, no_task, emptied, spawned, opened, closed, done}
use Rattle.model.specs.Reached.{Reached, start, by_spawn, by_open, by_close, by_end}
use Rattle.model.specs.Labels.{left}
use Rattle.order.specs.declared.record.Link.{Link}
use Rattle.order.specs.Invariants.{Plain}
use Rattle.order.specs.declared.record.FinishRow.{FinishRow}
use Rattle.order.specs.States.{State, Cleared, chain, task_told, seated, end_book}
use Rattle.edges.specs.Ways.{Ways, unwalked, spawn_ways, next_ways, close_ways, ways_of, way, searched}
use Rattle.order.specs.Plans.{Keeps, spawn_by, open_by, close_by}
use Rattle.order.specs.Graphs.{GraphSound, ways_in, graph_order, comes_from, goes_on, graph_plan}
use Rattle.order.proofs.Books.Writes.{put_at, put_off}
use Rattle.order.proofs.Books.Telling.{Ready, Fits, cleared_plain, spawn_told, open_told, close_told, end_told, spawn_plain, open_plain, close_plain, end_plain, none_lives, finishes_told}
use Rattle.order.proofs.Keeping.Ready.{keeps_by}
use Rattle.order.proofs.Books.Starting.{cleared_told}
use Rattle.order.proofs.Graphs.Drawn.{Hung, hung_seat, hung_more, Drawn, drawn, drawn_sound, before_is, earlier_is, not_shut}

-- what a book says of its steps
abbrev before_in : State → ℕ → ℕ → Bool
before_in st = searched (ways_in st)

abbrev earlier_in : State → ℕ → ℕ → Bool
earlier_in st a b = left (way (ways_in st) a) (way (ways_in st) b)

-- a cleared book holds the graph of step 0 alone
cleared_drawn : (limit : ℕ) (st : State) → Cleared limit st → Drawn st unwalked
cleared_drawn limit st c =
    let n = c.steps_is in
    let m = c.finishes_is in
    let node = ap (λ k. k.up) c.node_is in
    let shut = ap (λ k. k.shut) c.finish_is in
    record {
      hung = record {
        from_told = λ x p l. absurd (omega arith);
        home_told = λ x l. let e : 2 * x ≡ 0 = omega arith in ap (λ q. (st.link q).up) e ∙ node;
        home_held = λ x l. let e : 2 * x ≡ 0 = omega arith in let h = ap (λ q. (st.link q).up) e in omega arith;
      };
      shut_told = λ f l. let e : f ≡ 0 = omega arith in ap (λ q. (st.finish q).shut) e ∙ shut;
    }

-- what calls make of a book by the plan

abbrev graph_spawn : State → ℕ → State
graph_spawn = spawn_by graph_plan

abbrev graph_open : State → ℕ → State
graph_open = open_by graph_plan

abbrev graph_close : State → ℕ → State
graph_close = close_by graph_plan

pub graph_cleared : (limit : ℕ) (st : State) → Cleared limit st → 0 < limit → limit ≤ 2 ^ 62
    → GraphSound st × (graph_order st ≡ emptied limit)
graph_cleared limit st c a b =
    let none = emptied st.limit in
    let d = cleared_drawn limit st c in
    let before = before_is st st.limit none start (sym c.steps_is) d in
    let earlier = earlier_is st st.limit none start (sym c.steps_is) d in
    let e = cleared_told limit st c (before_in st) (earlier_in st) before earlier in
    (drawn_sound st none start (cleared_plain limit st c a b) (e ∙ ap emptied (sym c.limit_is)) d, e)

-- the seat of a step that comes from a lower one
come_fits : (x s f : ℕ) → s < x → f ≤ x → Fits x (comes_from x s f)
come_fits x s f l m = record { node_up = λ p. omega arith; node_turn = omega arith; leaf_up = omega arith; leaf_turn = omega arith }

-- a task's innermost finish is the first of its finishes
chain_first : (fin : ℕ → FinishRow) (n f : ℕ) → head_or (chain fin n f) 0 ≡ f
chain_first fin zero f = refl
chain_first fin (suc n) f = refl

-- how many tasks live in a finish does not say by which step it was closed
alive_only : (fin : ℕ → FinishRow) (i n f : ℕ) → (put fin i (record (fin i) { alive = n }) f).shut ≡ (fin f).shut
alive_only fin i n f =
    let row : FinishRow = record (fin i) { alive = n } in
    elim (cases_eq f i) [
      | inl e ↦ ap (λ k. k.shut) (put_at fin i row f e) ∙ ap (λ j. (fin j).shut) (sym e)
      | inr d ↦ ap (λ k. k.shut) (put_off fin i row f d)
    ]

module _ (st : State) (w : GraphSound st) (t : ℕ) where
  abbrev grown : Ways
  grown = ways_of w.reach

  -- the step that the task is on, and its innermost finish
  abbrev now : ℕ
  now = (st.task t).current

  abbrev inner : ℕ
  inner = (st.task t).inner

  steps_is : w.order.steps ≡ st.steps
  steps_is = sym (ap (λ m. m.steps) w.means)

  -- what the order has of a task that is held and runs, and what a call of it makes of the graph
  module _ (held : t < st.tasks) (runs : (st.task t).running ≡ true) where
    task_is : w.order.task t ≡ task_told st.finish (st.task t)
    task_is =
        sym (ap (λ m. m.task t) w.means) ∙ cond-true (nat_lt t st.tasks) (task_told st.finish (st.task t)) no_task (lt-ltb t st.tasks held)

    run : T (w.order.task t).running
    run = subst T (sym (ap (λ k. k.running) task_is ∙ runs)) tt

    current_is : (w.order.task t).current ≡ now
    current_is = ap (λ k. k.current) task_is

    chain_is : (w.order.task t).finishes ≡ chain st.finish (st.task t).own inner
    chain_is = ap (λ k. k.finishes) task_is ∙ cond-true (st.task t).running (chain st.finish (st.task t).own inner) [] runs

    inner_is : head_or (w.order.task t).finishes 0 ≡ inner
    inner_is = ap (λ z. head_or z 0) chain_is ∙ chain_first st.finish (st.task t).own inner

    home_is : grown.home (w.order.task t).current ≡ (st.link (2 * now)).up
    home_is = ap grown.home current_is ∙ sym (w.home_told now (w.plain.current_held t held))

    home_here : (st.link (2 * now)).up < st.finishes
    home_here = w.home_held now (w.plain.current_held t held)

    -- one more step of the task, x, after those that hang
    next_hung : (link : ℕ → Link) (x k n finishes : ℕ) (from home : ℕ → ℕ) → Hung link x finishes from home → k ≡ x → n ≡ x + 1
        → st.finishes ≤ finishes
        → Hung (seated link x (goes_on st t x)) n finishes (put from k (w.order.task t).current)
        (put home k (grown.home (w.order.task t).current))
    next_hung link x k n finishes from home h e m l =
        let b = home_here in
        hung_seat link x k n finishes from home now (w.order.task t).current (st.link (2 * now)).up (grown.home (w.order.task t).current)
        h e m current_is home_is (omega arith)

    next_fits : (x : ℕ) → st.steps ≤ x → Fits x (goes_on st t x)
    next_fits x l =
        let a = w.plain.current_held t held in
        let b = home_here in
        let c = w.plain.finishes_fit in
        come_fits x now (st.link (2 * now)).up (omega arith) (omega arith)

    child_fits : Fits st.steps (comes_from st.steps now inner)
    child_fits =
        let a = w.plain.inner_held t held in
        let c = w.plain.finishes_fit in
        come_fits st.steps now inner (w.plain.current_held t held) (omega arith)

    child_hung : Hung (seated st.link st.steps (comes_from st.steps now inner)) (st.steps + 1) st.finishes
        (put grown.from w.order.steps (w.order.task t).current) (put grown.home w.order.steps (head_or (w.order.task t).finishes 0))
    child_hung =
        hung_seat st.link st.steps w.order.steps (st.steps + 1) st.finishes grown.from grown.home now (w.order.task t).current inner
        (head_or (w.order.task t).finishes 0) (drawn st w).hung steps_is refl current_is inner_is (w.plain.inner_held t held)

    spawn_drawn : Drawn (graph_spawn st t) (spawn_ways w.order t grown)
    spawn_drawn =
        let s = steps_is in
        record {
          hung = next_hung (seated st.link st.steps (comes_from st.steps now inner)) (st.steps + 1) (w.order.steps + 1) (st.steps + 2)
              st.finishes (put grown.from w.order.steps (w.order.task t).current)
              (put grown.home w.order.steps (head_or (w.order.task t).finishes 0)) child_hung (omega arith) (omega arith) (omega arith);
          shut_told = λ f l. alive_only st.finish inner ((st.finish inner).alive + 1) f ∙ w.shut_told f l;
        }

    open_drawn : Drawn (graph_open st t) (next_ways w.order t grown)
    open_drawn =
        let n = ap (λ m. m.finishes) w.means in
        let none = not_shut st.limit w.order w.reach st.finishes (omega arith) in
        let row : FinishRow = record { outer = inner; alive = 0; shut = 0 } in
        record {
          hung = next_hung st.link st.steps w.order.steps (st.steps + 1) (st.finishes + 1) grown.from grown.home
              (hung_more st.link st.steps st.finishes (st.finishes + 1) grown.from grown.home (drawn st w).hung (omega arith))
              steps_is refl (omega arith);
          shut_told = λ f l. elim (cases_eq f st.finishes) [
            | inl e ↦ ap (λ k. k.shut) (put_at st.finish st.finishes row f e) ∙ sym none ∙ ap grown.shut (sym e)
            | inr d ↦ ap (λ k. k.shut) (put_off st.finish st.finishes row f d) ∙ w.shut_told f (omega arith)
          ];
        }

    close_drawn : Drawn (graph_close st t) (close_ways w.order t grown)
    close_drawn =
        let head : ℕ = head_or (w.order.task t).finishes 0 in
        let row : FinishRow = record (st.finish inner) { shut = st.steps } in
        record {
          hung = next_hung st.link st.steps w.order.steps (st.steps + 1) st.finishes grown.from grown.home (drawn st w).hung
              steps_is refl (omega arith);
          shut_told = λ f l. elim (cases_eq f inner) [
            | inl e ↦ ap (λ k. k.shut) (put_at st.finish inner row f e)
                ∙ sym (put_at grown.shut head w.order.steps f (e ∙ sym inner_is) ∙ steps_is)
            | inr d ↦ ap (λ k. k.shut) (put_off st.finish inner row f d) ∙ w.shut_told f l
                ∙ sym (put_off grown.shut head w.order.steps f (λ e. d (e ∙ inner_is)))
          ];
        }

    end_drawn : Drawn (end_book st t) grown
    end_drawn = record {
      hung = (drawn st w).hung;
      shut_told = λ f l. alive_only st.finish inner ((st.finish inner).alive - 1) f ∙ w.shut_told f l;
    }

    -- a task with a finish of its own has two finishes at least
    two_finishes : 0 < (st.task t).own → (g : ℕ) × (fs : List ℕ) × ((w.order.task t).finishes ≡ inner ∷ (g ∷ fs))
    two_finishes o =
        let (g, fs, e) = finishes_told st w.plain t (before_in st) (earlier_in st) held runs o in
        (g, fs, sym (ap (λ m. (m.task t).finishes) w.means) ∙ e)

    none_live : (st.finish inner).alive ≡ 0 → (u : ℕ) → T (w.order.lives inner u) → ⊥
    none_live z u l =
        none_lives st w.plain t (before_in st) (earlier_in st) inner (w.plain.inner_held t held) z u
        (subst T (sym (ap (λ m. m.lives inner u) w.means)) l)

  -- a call that makes the book st₂, if this is plain and holds the graph that the call grows
  kept : (st₂ : State) (call : Order → Order) (r : Reached st₂.limit (call w.order)) → (call w.order).steps ≡ st₂.steps → Plain st₂
      → Drawn st₂ (ways_of r)
      → (((a b : ℕ) → (graph_order st₂).before a b ≡ (call (graph_order st)).before a b)
      → ((a b : ℕ) → (graph_order st₂).earlier a b ≡ (call (graph_order st)).earlier a b) → graph_order st₂ ≡ call (graph_order st))
      → GraphSound st₂ × (graph_order st₂ ≡ call (graph_order st))
  kept st₂ call r s p d told =
      let same = told (λ a b. before_is st₂ st₂.limit (call w.order) r s d a b ∙ ap (λ m. (call m).before a b) (sym w.means)) in
      let e = same (λ a b. earlier_is st₂ st₂.limit (call w.order) r s d a b ∙ ap (λ m. (call m).earlier a b) (sym w.means)) in
      (drawn_sound st₂ (call w.order) r p (e ∙ ap call w.means) d, e)

  pub graph_spawned : Ready st t 2 → GraphSound (graph_spawn st t) × (graph_order (graph_spawn st t) ≡ spawned (graph_order st) t)
  graph_spawned y =
      let s = steps_is in
      let child = comes_from st.steps now inner in
      let next = goes_on st t (st.steps + 1) in
      kept (graph_spawn st t) (λ m. spawned m t) (by_spawn w.order t w.reach (run y.held y.runs)) (omega arith)
      (spawn_plain st w.plain t child next y (child_fits y.held y.runs) (next_fits y.held y.runs (st.steps + 1) (omega arith)))
      (spawn_drawn y.held y.runs)
      (spawn_told st w.plain t (before_in st) (earlier_in st) (before_in (graph_spawn st t)) (earlier_in (graph_spawn st t)) child next y)

  pub graph_opened : Ready st t 1 → GraphSound (graph_open st t) × (graph_order (graph_open st t) ≡ opened (graph_order st) t)
  graph_opened y =
      let s = steps_is in
      let next = goes_on st t st.steps in
      kept (graph_open st t) (λ m. opened m t) (by_open w.order t w.reach (run y.held y.runs)) (omega arith)
      (open_plain st w.plain t next y (next_fits y.held y.runs st.steps (omega arith))) (open_drawn y.held y.runs)
      (open_told st w.plain t (before_in st) (earlier_in st) (before_in (graph_open st t)) (earlier_in (graph_open st t)) next y)

  pub graph_closed : Ready st t 1 → 0 < (st.task t).own → (st.finish (st.task t).inner).alive ≡ 0
      → GraphSound (graph_close st t) × (graph_order (graph_close st t) ≡ closed (graph_order st) t)
  graph_closed y o z =
      let s = steps_is in
      let next = goes_on st t st.steps in
      let (g, fs, own) = two_finishes y.held y.runs o in
      kept (graph_close st t) (λ m. closed m t)
      (by_close w.order t inner g fs w.reach (run y.held y.runs) own (none_live y.held y.runs z)) (omega arith)
      (close_plain st w.plain t next y o (next_fits y.held y.runs st.steps (omega arith))) (close_drawn y.held y.runs)
      (close_told st w.plain t (before_in st) (earlier_in st) (before_in (graph_close st t)) (earlier_in (graph_close st t)) next y o)

  pub graph_ended : t < st.tasks → (st.task t).running ≡ true → (st.task t).own ≡ 0
      → GraphSound (end_book st t) × (graph_order (end_book st t) ≡ done (graph_order st) t)
  graph_ended h r o =
      let last = chain_is h r ∙ ap (λ n. chain st.finish n inner) o in
      kept (end_book st t) (λ m. done m t) (by_end w.order t inner w.reach (run h r) last) steps_is (end_plain st w.plain t h r o)
      (end_drawn h r)
      (end_told st w.plain t (before_in st) (earlier_in st) (before_in (end_book st t)) (earlier_in (end_book st t)) h r o)

pub graph_keeps : Keeps GraphSound graph_plan
graph_keeps = keeps_by GraphSound graph_plan (λ st w. w.plain) graph_cleared graph_spawned graph_opened graph_closed graph_ended
