-- A plan keeps what is sound if it does so for calls of tasks that are ready for them.
use Rattle.std.proofs.Common.{◌≡◌, ℕ, ◌<◌, ◌≤◌, ◌^◌, true}
use Rattle.model.specs.Orders.{emptied, spawned, opened, closed, done}
use Rattle.order.specs.States.{State, Cleared, end_book}
use Rattle.order.specs.Invariants.{Plain}
use Rattle.order.specs.Plans.{Plan, Keeps, StandsFor, order_by, spawn_by, open_by, close_by}
use Rattle.order.proofs.Books.Telling.{Ready, spawn_ready, open_ready, close_ready, end_ready}

pub keeps_by : (Sound : State → Type 0) (p : Plan) → ((st : State) → Sound st → Plain st)
    → ((limit : ℕ) (st : State) → Cleared limit st → 0 < limit → limit ≤ 2 ^ 62 → StandsFor Sound p st (emptied limit))
    → ((st : State) → Sound st → (t : ℕ) → Ready st t 2 → StandsFor Sound p (spawn_by p st t) (spawned (order_by p st) t))
    → ((st : State) → Sound st → (t : ℕ) → Ready st t 1 → StandsFor Sound p (open_by p st t) (opened (order_by p st) t))
    → ((st : State) → Sound st → (t : ℕ) → Ready st t 1 → 0 < (st.task t).own → (st.finish (st.task t).inner).alive ≡ 0
    → StandsFor Sound p (close_by p st t) (closed (order_by p st) t))
    → ((st : State) → Sound st → (t : ℕ) → t < st.tasks → (st.task t).running ≡ true → (st.task t).own ≡ 0
    → StandsFor Sound p (end_book st t) (done (order_by p st) t))
    → Keeps Sound p
keeps_by Sound p plain clears spawns opens closes ends = record {
  plain = plain;
  clears = clears;
  spawns = λ st w t h. spawns st w t (spawn_ready st (plain st w) t h);
  opens = λ st w t h. opens st w t (open_ready st (plain st w) t h);
  closes = λ st w t h. let r = close_ready st (plain st w) t h in closes st w t r.0 r.1 r.2;
  ends = λ st w t h. let r = end_ready st (plain st w) t h in ends st w t r.0 r.1 r.2;
}
