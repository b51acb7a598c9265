-- What each call makes of a book, its tasks and its finishes, and that the book stays plain.
use Rattle.std.proofs.Math.Path.{fun_ext}
use Rattle.std.proofs.lemmas.Bool.{not-false, ltb-true, ltb-false}
use Rattle.std.proofs.Common.{◌≡◌, ℕ, suc, ◌+◌, ◌-◌, ◌*◌, ◌/◌, ◌^◌, ◌<◌, ◌≤◌, Bool, true, false, cond, ◌&&◌, ◌||◌, ◌==◌, nat_lt, T, Some, None, Option, List, [], ◌∷◌, refl, sym, ap, subst, ◌∙◌, arith, add-one}
use Rattle.model.specs.Lists.{head_or, put, rest}
use Rattle.model.specs.Orders.{Order, Task, spawned, opened, closed, done, gone, few}
use Rattle.order.specs.declared.fault.OrderFault.{OrderFault}
use Rattle.order.specs.declared.record.Link.{Link}
use Rattle.order.specs.declared.record.TaskRow.{TaskRow}
use Rattle.order.specs.declared.record.FinishRow.{FinishRow}
use Rattle.order.specs.declared.record.Seat.{Seat}
use Rattle.order.specs.Rows.{no_link}
use Rattle.order.specs.States.{State, Cleared, order_with, tasks_told, task_told, chain, lives_in, spawn_book, open_book, close_book, end_book, seated}
use Rattle.order.specs.Invariants.{Plain, count, foot}
use Rattle.order.specs.Calls.{spawn_fault, open_fault, close_fault, end_fault}
use Rattle.order.proofs.Books.Writes.{put_at, put_off}
use Rattle.order.proofs.Books.Puts.{put_holds, put_keeps, order_ext}
use Rattle.order.proofs.Books.Counts.{count_none}
use Rattle.order.proofs.Books.Nested.{Around, chain_same, foot_same, chain_rest, foot_rest, chain_two}
use Rattle.order.proofs.Books.Tasks.{on, row_told, held_told, tasks_of, one_told, next_told, lives_kept, last_kept, lives_next, last_next, lives_end, last_end}
use Rattle.order.proofs.Books.Running.{chain_head, running, owns_is, awaits_is}
use Rattle.order.proofs.Books.Living.{row_counted, finish_counted, next_counted, spawn_counted, end_counted}
use Rattle.order.proofs.Books.Plains.{Hung, hung, hung_seated, ringed, Sits, sits, sits_as, sits_put, around_held, plain_of}

-- the seat of a step x hangs from places with smaller numbers, by turns that are not too large
pub record Fits (x : ℕ) (seat : Seat) : Type 0 where
  pub node_up : 0 < x → seat.node.up < 2 * x
  pub node_turn : seat.node.turn ≤ 2 * x
  pub leaf_up : seat.leaf.up < 2 * x + 1
  pub leaf_turn : seat.leaf.turn ≤ 2 * x

-- what a call that is not refused may rest on
pub record Ready (st : State) (t n : ℕ) : Type 0 where
  pub held : t < st.tasks
  pub runs : (st.task t).running ≡ true
  pub room : st.steps + n ≤ st.limit

-- where no fault comes first, no test of one passed
untold : (b : Bool) (o : OrderFault) (r : Option OrderFault) → cond b (Some o) r ≡ None → (b ≡ false) × (r ≡ None)
untold true o r e = absurd (cc)
untold false o r e = (refl, e)

both : (a b : Bool) → T (a && b) → (a ≡ true) × (b ≡ true)
both true true h = (refl, refl)
both true false h = absurd h
both false b h = absurd h

seat_hung : (x : ℕ) (s : Seat) → Fits x s → (link : ℕ → Link) → Hung link x → Hung (seated link x s) (x + 1)
seat_hung x s a link h = hung_seated link x s h a.node_up a.node_turn a.leaf_up a.leaf_turn

ready : (st : State) (t n : ℕ) → gone (tasks_told st) t ≡ false → few (tasks_told st) n ≡ false → Ready st t n
ready st t n g f =
    let w = running st t (not-false _ g) in
    record { held = w.held; runs = w.runs; room = ltb-false st.limit (st.steps + n) f }

cleared_hung : (link : ℕ → Link) → link 0 ≡ no_link → link 1 ≡ no_link → Hung link 1
cleared_hung link a b = record { up = up; turn = turn }
  where
    up : (p : ℕ) → 0 < p → p < 2 * 1 → (link p).up < p
    up p h i = let e : p ≡ 1 = omega (arith, h, i) in subst (λ q. (link q).up < q) (sym e) (let c = ap (λ (z : Link). z.up) b in omega (arith, c))

    turn : (p : ℕ) → p < 2 * 1 → (link p).turn ≤ p / 2 * 2
    turn ℕ.zero h = let c = ap (λ (z : Link). z.turn) a in omega (arith, c)
    turn (suc ℕ.zero) h = let c = ap (λ (z : Link). z.turn) b in omega (arith, c)
    turn (suc (suc p)) h = absurd (omega (arith, h))

pub cleared_plain : (limit : ℕ) (st : State) → Cleared limit st → 0 < limit → limit ≤ 2 ^ 62 → Plain st
cleared_plain limit st c a b =
    plain_of st (omega arith) (omega arith) (omega arith) (omega arith) (omega arith) (omega arith) (omega arith)
    (subst (Hung st.link) (sym c.steps_is) (cleared_hung st.link c.node_is c.leaf_is))
    (record { around = λ f h i. absurd (omega arith); outermost = ap (λ (z : FinishRow). z.outer) c.finish_is })
    counts stands
  where
    counts : (f : ℕ) → f < st.finishes → (st.finish f).alive ≡ count (λ t. lives_in (st.task t) f) st.tasks
    counts f h =
        let e : 0 ≡ f = omega arith in
        subst (λ g. (st.finish g).alive ≡ count (λ t. lives_in (st.task t) g) st.tasks) e
        (ap (λ (z : FinishRow). z.alive) c.finish_is
        ∙ sym (ap (count (λ t. lives_in (st.task t) 0)) c.tasks_is ∙ ap (λ z. cond (lives_in z 0) 1 0) c.task_is))

    stands : (u : ℕ) → u < st.tasks → Sits st.steps st.finishes st.finish (st.task u)
    stands u h =
        let e : 0 ≡ u = omega arith in
        subst (λ v. Sits st.steps st.finishes st.finish (st.task v)) e
        (subst (Sits st.steps st.finishes st.finish) (sym c.task_is)
        (record { current_held = omega arith; inner_held = omega arith; home_held = omega arith; own_fits = omega arith; footed = refl }))

module _ (st : State) (p : Plain st) (t : ℕ) where
  pub spawn_ready : spawn_fault (tasks_told st) t ≡ None → Ready st t 2
  spawn_ready h = let a = untold _ _ _ h in let b = untold _ _ _ a.1 in ready st t 2 a.0 b.0

  pub open_ready : open_fault (tasks_told st) t ≡ None → Ready st t 1
  open_ready h = let a = untold _ _ _ h in let b = untold _ _ _ a.1 in ready st t 1 a.0 b.0

  pub close_ready : close_fault (tasks_told st) t ≡ None → Ready st t 1 × (0 < (st.task t).own) × ((st.finish (st.task t).inner).alive ≡ 0)
  close_ready h =
      let a = untold _ _ _ h in
      let b = untold _ _ _ a.1 in
      let c = untold _ _ _ b.1 in
      let d = untold _ _ _ c.1 in
      let r = not-false _ a.0 in (
        ready st t 1 a.0 d.0,
        ltb-true 0 (st.task t).own (owns_is st t r ∙ not-false _ b.0),
        (let e = ltb-false 0 (st.finish (st.task t).inner).alive (awaits_is st p t r ∙ c.0) in omega (arith, e)),
      )

  pub end_ready : end_fault (tasks_told st) t ≡ None → (t < st.tasks) × ((st.task t).running ≡ true) × ((st.task t).own ≡ 0)
  end_ready h =
      let a = untold _ _ _ h in
      let b = untold _ _ _ a.1 in
      let r = not-false _ a.0 in
      let w = running st t r in
      (w.held, w.runs, (let e = ltb-false 0 (st.task t).own (owns_is st t r ∙ b.0) in omega (arith, e)))

  abbrev k : TaskRow
  k = st.task t

  abbrev n : ℕ
  n = st.tasks

  -- the row of a finish is written, and the finish around it stays
  outer_kept : (i : ℕ) (v : FinishRow) → v.outer ≡ (st.finish i).outer → (f : ℕ) → (put st.finish i v f).outer ≡ (st.finish f).outer
  outer_kept i v = put_keeps (λ (z : FinishRow). z.outer) st.finish i v

  around_kept : (i : ℕ) (v : FinishRow) → v.outer ≡ (st.finish i).outer → Around st.finish (put st.finish i v) st.finishes
  around_kept i v e = around_held st p (put st.finish i v) (λ f h. outer_kept i v e f)

  -- the row of the task, and of a task that it spawns

  abbrev spawning : TaskRow
  spawning = record k { current = st.steps + 1 }

  abbrev new : TaskRow
  new = record { running = true; current = st.steps; inner = k.inner; own = 0; home = k.inner }

  abbrev opening : TaskRow
  opening = record k { current = st.steps; inner = st.finishes; own = k.own + 1 }

  abbrev closing : TaskRow
  closing = record k { current = st.steps; inner = (st.finish k.inner).outer; own = k.own - 1 }

  abbrev ending : TaskRow
  ending = record k { running = false }

  -- the row of its innermost finish, and of a finish that it opens

  abbrev more : FinishRow
  more = record (st.finish k.inner) { alive = (st.finish k.inner).alive + 1 }

  abbrev fewer : FinishRow
  fewer = record (st.finish k.inner) { alive = (st.finish k.inner).alive - 1 }

  abbrev shutting : FinishRow
  shutting = record (st.finish k.inner) { shut = st.steps }

  abbrev fresh : FinishRow
  fresh = record { outer = k.inner; alive = 0; shut = 0 }

  opened_around : Around st.finish (put st.finish st.finishes fresh) st.finishes
  opened_around = around_held st p (put st.finish st.finishes fresh) (λ f h. ap (λ (z : FinishRow). z.outer) (put_off st.finish st.finishes fresh f (λ e. omega (arith, e, h))))

  fresh_outer : (put st.finish st.finishes fresh st.finishes).outer ≡ k.inner
  fresh_outer = ap (λ (z : FinishRow). z.outer) (put_at st.finish st.finishes fresh st.finishes refl)

  home_is : t < n → k.own ≡ 0 → k.inner ≡ k.home
  home_is h o = sym (ap (λ i. foot st.finish i k.inner) o) ∙ p.footed t h

  -- where `before` and `earlier` say of the book's steps what an order says, the book stands for that order after the call too
  module _ (before earlier before₂ earlier₂ : ℕ → ℕ → Bool) where
    abbrev m : Order
    m = order_with before earlier st

    told : t < n → k.running ≡ true → m.task t ≡ on k.current (chain st.finish k.own k.inner)
    told h r = held_told st.finish n st.task t h r

    head : t < n → k.running ≡ true → head_or (m.task t).finishes 0 ≡ k.inner
    head h r = ap (λ (z : Task). head_or z.finishes 0) (told h r) ∙ chain_head st.finish k.own k.inner

    -- what the order says of the tasks where the task's row is written
    task_put : (fin₂ : ℕ → FinishRow) → Around st.finish fin₂ st.finishes → (k₁ : TaskRow) (x : Task) → t < n → task_told fin₂ k₁ ≡ x
        → (u : ℕ) → tasks_of fin₂ n (put st.task t k₁) u ≡ put m.task t x u
    task_put fin₂ w = one_told st.finish fin₂ n st.finishes st.task w p.inner_held t

    spawn_tasks : t < n → k.running ≡ true → (u : ℕ) → tasks_of (put st.finish k.inner more) (n + 1) (put (put st.task t spawning) n new) u ≡ (spawned m t).task u
    spawn_tasks h r u =
        let fin₂ : ℕ → FinishRow = put st.finish k.inner more in
        let w = around_kept k.inner more refl in
        let x : Task = record (m.task t) { current = st.steps + 1 } in
        let a : task_told fin₂ spawning ≡ x = row_told fin₂ spawning r ∙ ap (on (st.steps + 1)) (chain_same st.finish fin₂ st.finishes w k.own k.inner (p.inner_held t h))
        ∙ sym (ap (λ (z : Task). record z { current = st.steps + 1 }) (told h r)) in
        next_told fin₂ n (put st.task t spawning) new u
        ∙ ap (λ g. put g n (task_told fin₂ new) u) (fun_ext (task_put fin₂ w spawning x h a))
        ∙ ap (λ g. put (put m.task t x) n (on st.steps (g ∷ [])) u) (sym (head h r))

    pub spawn_told : (child next : Seat) → Ready st t 2
        → ((a b : ℕ) → (order_with before₂ earlier₂ (spawn_book st t child next)).before a b ≡ (spawned m t).before a b)
        → ((a b : ℕ) → (order_with before₂ earlier₂ (spawn_book st t child next)).earlier a b ≡ (spawned m t).earlier a b)
        → order_with before₂ earlier₂ (spawn_book st t child next) ≡ spawned m t
    spawn_told child next y e f =
        order_ext (order_with before₂ earlier₂ (spawn_book st t child next)) (spawned m t) refl refl refl refl e f (spawn_tasks y.held y.runs)
        (λ g u. lives_next (put st.task t spawning) n new refl g u
        ∙ ap (λ b. (g == k.inner && u == n) || (nat_lt u n && b)) (lives_kept st.task t spawning y.runs y.runs refl g u)
        ∙ ap (λ z. (g == z && u == n) || m.lives g u) (sym (head y.held y.runs)))
        (λ g l. last_next (put st.task t spawning) n new refl g l ∙ last_kept st.task t spawning y.runs y.runs refl n g l)

    open_tasks : t < n → k.running ≡ true → (u : ℕ) → tasks_of (put st.finish st.finishes fresh) n (put st.task t opening) u ≡ (opened m t).task u
    open_tasks h r =
        let fin₂ : ℕ → FinishRow = put st.finish st.finishes fresh in
        task_put fin₂ opened_around opening _ h (row_told fin₂ opening r
        ∙ ap (λ i. on st.steps (chain fin₂ i st.finishes)) (add-one k.own)
        ∙ ap (λ g. on st.steps (st.finishes ∷ chain fin₂ k.own g)) fresh_outer
        ∙ ap (λ fs. on st.steps (st.finishes ∷ fs)) (chain_same st.finish fin₂ st.finishes opened_around k.own k.inner (p.inner_held t h))
        ∙ sym (ap (λ (z : Task). record z { current = st.steps; finishes = st.finishes ∷ z.finishes }) (told h r)))

    pub open_told : (next : Seat) → Ready st t 1
        → ((a b : ℕ) → (order_with before₂ earlier₂ (open_book st t next)).before a b ≡ (opened m t).before a b)
        → ((a b : ℕ) → (order_with before₂ earlier₂ (open_book st t next)).earlier a b ≡ (opened m t).earlier a b)
        → order_with before₂ earlier₂ (open_book st t next) ≡ opened m t
    open_told next y e f =
        order_ext (order_with before₂ earlier₂ (open_book st t next)) (opened m t) refl refl refl refl e f (open_tasks y.held y.runs)
        (λ g u. ap (λ b. nat_lt u n && b) (lives_kept st.task t opening y.runs y.runs refl g u))
        (last_kept st.task t opening y.runs y.runs refl n)

    close_tasks : t < n → k.running ≡ true → 0 < k.own → (u : ℕ) → tasks_of (put st.finish k.inner shutting) n (put st.task t closing) u ≡ (closed m t).task u
    close_tasks h r o =
        let fin₂ : ℕ → FinishRow = put st.finish k.inner shutting in
        let w = around_kept k.inner shutting refl in
        task_put fin₂ w closing _ h (row_told fin₂ closing r
        ∙ ap (on st.steps) (chain_same st.finish fin₂ st.finishes w (k.own - 1) (st.finish k.inner).outer (w.stays k.inner (p.inner_held t h))
        ∙ sym (chain_rest st.finish k.own k.inner o))
        ∙ sym (ap (λ (z : Task). record z { current = st.steps; finishes = rest z.finishes }) (told h r)))

    pub close_told : (next : Seat) → Ready st t 1 → 0 < (st.task t).own
        → ((a b : ℕ) → (order_with before₂ earlier₂ (close_book st t next)).before a b ≡ (closed m t).before a b)
        → ((a b : ℕ) → (order_with before₂ earlier₂ (close_book st t next)).earlier a b ≡ (closed m t).earlier a b)
        → order_with before₂ earlier₂ (close_book st t next) ≡ closed m t
    close_told next y o e f =
        order_ext (order_with before₂ earlier₂ (close_book st t next)) (closed m t) refl refl refl refl e f (close_tasks y.held y.runs o)
        (λ g u. ap (λ b. nat_lt u n && b) (lives_kept st.task t closing y.runs y.runs refl g u))
        (last_kept st.task t closing y.runs y.runs refl n)

    end_tasks : t < n → k.running ≡ true → (u : ℕ) → tasks_of (put st.finish k.inner fewer) n (put st.task t ending) u ≡ (done m t).task u
    end_tasks h r = task_put (put st.finish k.inner fewer) (around_kept k.inner fewer refl) ending _ h
        (sym (ap (λ (z : Task). record z { running = false; finishes = [] }) (told h r)))

    pub end_told : t < st.tasks → (st.task t).running ≡ true → (st.task t).own ≡ 0
        → ((a b : ℕ) → (order_with before₂ earlier₂ (end_book st t)).before a b ≡ (done m t).before a b)
        → ((a b : ℕ) → (order_with before₂ earlier₂ (end_book st t)).earlier a b ≡ (done m t).earlier a b)
        → order_with before₂ earlier₂ (end_book st t) ≡ done m t
    end_told h r o e f =
        order_ext (order_with before₂ earlier₂ (end_book st t)) (done m t) refl refl refl refl e f (end_tasks h r)
        (lives_end st.task n t h r)
        (λ g l. last_end st.task n t h r g l
        ∙ ap (λ z. (g == z && l == k.current) || m.last g l) (sym (home_is h o) ∙ sym (head h r))
        ∙ ap (λ (z : Task). (g == head_or (m.task t).finishes 0 && l == z.current) || m.last g l) (sym (told h r)))

  pub spawn_plain : (child next : Seat) → Ready st t 2 → Fits st.steps child → Fits (st.steps + 1) next → Plain (spawn_book st t child next)
  spawn_plain child next y a b =
      let fin₂ : ℕ → FinishRow = put st.finish k.inner more in
      let i = p.inner_held t y.held in
      let s = sits st p (st.steps + 2) st.finishes fin₂ (omega arith) (omega arith) (around_kept k.inner more refl) in
      plain_of (spawn_book st t child next) (omega arith) y.room p.limit_fits (omega arith) (omega (arith, p.tasks_fit)) p.finishes_held (omega (arith, p.finishes_fit))
      (subst (Hung _) (let e : st.steps + 1 + 1 ≡ st.steps + 2 = omega arith in e) (seat_hung (st.steps + 1) next b _ (seat_hung st.steps child a st.link (hung st p))))
      (ringed st p fin₂ (outer_kept k.inner more refl))
      (spawn_counted st.finish (put st.task t spawning) st.finishes n (row_counted st.finish st.task st.finishes n p.counted t spawning y.runs y.runs refl) new refl)
      (sits_put (n + 1) (put st.task t spawning) n new
      (record { current_held = omega arith; inner_held = i; home_held = i; own_fits = p.finishes_held; footed = refl })
      (λ u d h. sits_put n st.task t spawning (sits_as (s t y.held) k.running (st.steps + 1) (omega arith))
      (λ v _ j. s v j) u (omega (arith, d, h))))

  pub open_plain : (next : Seat) → Ready st t 1 → Fits st.steps next → Plain (open_book st t next)
  open_plain next y a =
      let fin₂ : ℕ → FinishRow = put st.finish st.finishes fresh in
      let i = p.inner_held t y.held in
      let s = sits st p (st.steps + 1) (st.finishes + 1) fin₂ (omega arith) (omega arith) opened_around in
      plain_of (open_book st t next) (omega arith) y.room p.limit_fits p.tasks_held (omega (arith, p.tasks_fit)) (omega arith) (omega (arith, p.finishes_fit))
      (seat_hung st.steps next a st.link (hung st p))
      (record {
        around = λ f. put_holds (λ g z. 0 < g → g < st.finishes + 1 → z.outer < g) st.finish st.finishes fresh (λ h j. i)
            f (λ d h j. p.around f h (omega (arith, d, j)));
        outermost = ap (λ (z : FinishRow). z.outer) (put_off st.finish st.finishes fresh 0 (λ e. omega (arith, e, p.finishes_held))) ∙ p.outermost;
      })
      (next_counted st.finish (put st.task t opening) st.finishes n (row_counted st.finish st.task st.finishes n p.counted t opening y.runs y.runs refl) fresh refl
      (λ u. put_holds (λ v z. v < n → z.home < st.finishes) st.task t opening (λ h. p.home_held t y.held) u (λ d h. p.home_held u h)))
      (sits_put n st.task t opening (record {
        current_held = omega arith;
        inner_held = omega arith;
        home_held = (s t y.held).home_held;
        own_fits = omega (arith, p.own_fits t y.held);
        footed = ap (λ c. foot fin₂ c st.finishes) (add-one k.own) ∙ ap (foot fin₂ k.own) fresh_outer ∙ (s t y.held).footed;
      }) (λ u _ h. s u h))

  pub close_plain : (next : Seat) → Ready st t 1 → 0 < (st.task t).own → Fits st.steps next → Plain (close_book st t next)
  close_plain next y o a =
      let fin₂ : ℕ → FinishRow = put st.finish k.inner shutting in
      let w = around_kept k.inner shutting refl in
      let i = w.stays k.inner (p.inner_held t y.held) in
      let s = sits st p (st.steps + 1) st.finishes fin₂ (omega arith) (omega arith) w in
      plain_of (close_book st t next) (omega arith) y.room p.limit_fits p.tasks_held (omega (arith, p.tasks_fit)) p.finishes_held (omega (arith, p.finishes_fit))
      (seat_hung st.steps next a st.link (hung st p))
      (ringed st p fin₂ (outer_kept k.inner shutting refl))
      (finish_counted st.finish (put st.task t closing) st.finishes n (row_counted st.finish st.task st.finishes n p.counted t closing y.runs y.runs refl) k.inner shutting refl)
      (sits_put n st.task t closing (record {
        current_held = omega arith;
        inner_held = i;
        home_held = p.home_held t y.held;
        own_fits = omega (arith, p.own_fits t y.held);
        footed = foot_same st.finish fin₂ st.finishes w (k.own - 1) (st.finish k.inner).outer i ∙ foot_rest st.finish k.own k.inner o ∙ p.footed t y.held;
      }) (λ u _ h. s u h))

  pub end_plain : t < st.tasks → (st.task t).running ≡ true → (st.task t).own ≡ 0 → Plain (end_book st t)
  end_plain h r o =
      let fin₂ : ℕ → FinishRow = put st.finish k.inner fewer in
      let s = sits st p st.steps st.finishes fin₂ (omega arith) (omega arith) (around_kept k.inner fewer refl) in
      plain_of (end_book st t) p.steps_held p.steps_fit p.limit_fits p.tasks_held p.tasks_fit p.finishes_held p.finishes_fit (hung st p)
      (ringed st p fin₂ (outer_kept k.inner fewer refl))
      (end_counted st.finish st.task st.finishes n p.counted t k.inner h r (home_is h o))
      (sits_put n st.task t ending (sits_as (s t h) false k.current (p.current_held t h)) (λ u _ h. s u h))

  -- no task lives in a finish whose count is 0
  pub none_lives : (before earlier : ℕ → ℕ → Bool) (f : ℕ) → f < st.finishes → (st.finish f).alive ≡ 0
      → (u : ℕ) → T ((order_with before earlier st).lives f u) → ⊥
  none_lives before earlier f h z u l =
      let a = both _ _ l in
      count_none (λ v. lives_in (st.task v) f) n u (sym (p.counted f h) ∙ z) (ltb-true u n a.0) a.1

  -- in the order, of a running task that is held
  pub finishes_told : (before earlier : ℕ → ℕ → Bool) → t < st.tasks → (st.task t).running ≡ true → 0 < (st.task t).own
      → (g : ℕ) × (fs : List ℕ) × (((order_with before earlier st).task t).finishes ≡ (st.task t).inner ∷ (g ∷ fs))
  finishes_told before earlier h r o =
      let a = chain_two st.finish k.own k.inner o in
      (a.0, a.1, ap (λ (z : Task). z.finishes) (held_told st.finish n st.task t h r) ∙ a.2)
