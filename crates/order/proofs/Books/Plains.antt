-- Parts of what makes a book plain, and how each is kept where places, finishes and tasks are written.
use Rattle.std.proofs.Common.{◌≡◌, ℕ, suc, ◌+◌, ◌*◌, ◌/◌, ◌^◌, ◌<◌, ◌≤◌, Bool, ◌∙◌, arith}
use Rattle.model.specs.Lists.{put}
use Rattle.order.specs.declared.record.Link.{Link}
use Rattle.order.specs.declared.record.TaskRow.{TaskRow}
use Rattle.order.specs.declared.record.FinishRow.{FinishRow}
use Rattle.order.specs.declared.record.Seat.{Seat}
use Rattle.order.specs.States.{State, place, seated}
use Rattle.order.specs.Invariants.{Plain, foot}
use Rattle.order.proofs.Books.Puts.{put_holds}
use Rattle.order.proofs.Books.Living.{Counted}
use Rattle.order.proofs.Books.Nested.{Around, foot_same}

-- where the places of n steps hang
pub record Hung (link : ℕ → Link) (n : ℕ) : Type 0 where
  pub up : (p : ℕ) → 0 < p → p < 2 * n → (link p).up < p
  pub turn : (p : ℕ) → p < 2 * n → (link p).turn ≤ p / 2 * 2

-- the next step is seated
pub hung_seated : (link : ℕ → Link) (x : ℕ) (seat : Seat) → Hung link x → (0 < x → seat.node.up < 2 * x) → seat.node.turn ≤ 2 * x → seat.leaf.up < 2 * x + 1 → seat.leaf.turn ≤ 2 * x
    → Hung (seated link x seat) (x + 1)
hung_seated link x seat h a b c d = record {
  up = λ p. put_holds (λ q l. 0 < q → q < 2 * (x + 1) → l.up < q) (put link (2 * x) seat.node) (place x) seat.leaf (λ i j. c)
      p (λ n. put_holds (λ q l. (q ≡ place x → ⊥) → 0 < q → q < 2 * (x + 1) → l.up < q) link (2 * x) seat.node (λ n i j. a (omega (arith, i)))
      p (λ m n i j. h.up p i (omega (arith, m, n, j))) n);
  turn = λ p. put_holds (λ q l. q < 2 * (x + 1) → l.turn ≤ q / 2 * 2) (put link (2 * x) seat.node) (place x) seat.leaf (λ j. omega (arith, d))
      p (λ n. put_holds (λ q l. (q ≡ place x → ⊥) → q < 2 * (x + 1) → l.turn ≤ q / 2 * 2) link (2 * x) seat.node (λ n j. omega (arith, b))
      p (λ m n j. h.turn p (omega (arith, m, n, j))) n);
}

-- the finishes around the n held
pub record Ringed (fin : ℕ → FinishRow) (n : ℕ) : Type 0 where
  pub around : (f : ℕ) → 0 < f → f < n → (fin f).outer < f
  pub outermost : (fin 0).outer ≡ 0

-- what a task's row names is held
pub record Sits (steps finishes : ℕ) (fin : ℕ → FinishRow) (k : TaskRow) : Type 0 where
  pub current_held : k.current < steps
  pub inner_held : k.inner < finishes
  pub home_held : k.home < finishes
  pub own_fits : k.own < finishes
  pub footed : foot fin k.own k.inner ≡ k.home

-- the tasks that were held, in a book that holds more
pub sits : (st : State) → Plain st → (steps finishes : ℕ) (fin : ℕ → FinishRow) → st.steps ≤ steps → st.finishes ≤ finishes → Around st.finish fin st.finishes
    → (u : ℕ) → u < st.tasks → Sits steps finishes fin (st.task u)
sits st p steps finishes fin a b w u h = record {
  current_held = omega (arith, p.current_held u h);
  inner_held = omega (arith, p.inner_held u h);
  home_held = omega (arith, p.home_held u h);
  own_fits = omega (arith, p.own_fits u h);
  footed = foot_same st.finish fin st.finishes w (st.task u).own (st.task u).inner (p.inner_held u h) ∙ p.footed u h;
}

-- a task stands on another step, or ends
pub sits_as : {steps finishes : ℕ} {fin : ℕ → FinishRow} {k : TaskRow} → Sits steps finishes fin k → (b : Bool) (c : ℕ) → c < steps
    → Sits steps finishes fin (record k { running = b; current = c })
sits_as s b c h = record {
  current_held = h;
  inner_held = s.inner_held;
  home_held = s.home_held;
  own_fits = s.own_fits;
  footed = s.footed;
}

-- one task's row is written, or the row of a new task
pub sits_put : {steps finishes : ℕ} {fin : ℕ → FinishRow} (n : ℕ) (task : ℕ → TaskRow) (t : ℕ) (k : TaskRow) → Sits steps finishes fin k
    → ((u : ℕ) → (u ≡ t → ⊥) → u < n → Sits steps finishes fin (task u)) → (u : ℕ) → u < n → Sits steps finishes fin (put task t k u)
sits_put {steps = steps} {finishes = finishes} {fin = fin} n task t k s r u = put_holds (λ v z. v < n → Sits steps finishes fin z) task t k (λ h. s) u (r u)

pub hung : (st : State) → Plain st → Hung st.link st.steps
hung st p = record { up = p.hung; turn = p.turned }

-- finish 0 stands in itself, so with every held finish one around it is held
pub around_held : (st : State) → Plain st → (fin₂ : ℕ → FinishRow) → ((f : ℕ) → f < st.finishes → (fin₂ f).outer ≡ (st.finish f).outer) → Around st.finish fin₂ st.finishes
around_held st p fin₂ same = record { stays = stays; same = same }
  where
    stays : (f : ℕ) → f < st.finishes → (st.finish f).outer < st.finishes
    stays ℕ.zero h = omega (arith, p.outermost, h)
    stays (suc f) h = omega (arith, p.around (suc f) (omega arith) h, h)

-- finishes are written, and the finishes around others stay
pub ringed : (st : State) → Plain st → (fin₂ : ℕ → FinishRow) → ((f : ℕ) → (fin₂ f).outer ≡ (st.finish f).outer) → Ringed fin₂ st.finishes
ringed st p fin₂ same = record { around = λ f i j. omega (arith, same f, p.around f i j); outermost = same 0 ∙ p.outermost }

-- a plain book, by its parts
pub plain_of : (st : State) → 0 < st.steps → st.steps ≤ st.limit → st.limit ≤ 2 ^ 62 → 0 < st.tasks → st.tasks ≤ st.steps → 0 < st.finishes → st.finishes ≤ st.steps
    → Hung st.link st.steps → Ringed st.finish st.finishes → Counted st.finish st.task st.finishes st.tasks
    → ((u : ℕ) → u < st.tasks → Sits st.steps st.finishes st.finish (st.task u)) → Plain st
plain_of st a b c d e g h link ring counted s = record {
  steps_held = a;
  steps_fit = b;
  limit_fits = c;
  tasks_held = d;
  tasks_fit = e;
  finishes_held = g;
  finishes_fit = h;
  hung = link.up;
  turned = link.turn;
  around = ring.around;
  outermost = ring.outermost;
  counted = counted;
  current_held = λ u i. (s u i).current_held;
  inner_held = λ u i. (s u i).inner_held;
  home_held = λ u i. (s u i).home_held;
  own_fits = λ u i. (s u i).own_fits;
  footed = λ u i. (s u i).footed;
}
