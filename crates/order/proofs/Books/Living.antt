-- How many tasks live in each finish, where rows of tasks and of finishes are written.
use Rattle.std.proofs.lemmas.Bool.{ne_eqb}
use Rattle.std.proofs.lemmas.Bool.Decides.{nat_tests}
use Rattle.std.proofs.Common.{◌≡◌, ℕ, suc, ◌+◌, ◌-◌, ◌<◌, Bool, true, false, cond, ◌&&◌, ◌==◌, refl, sym, ap, ◌∙◌, arith, add-one, eq-eqb}
use Rattle.model.specs.Lists.{put}
use Rattle.order.specs.declared.record.TaskRow.{TaskRow}
use Rattle.order.specs.declared.record.FinishRow.{FinishRow}
use Rattle.order.specs.States.{lives_in}
use Rattle.order.specs.Invariants.{count}
use Rattle.order.proofs.Books.Writes.{put_at, put_off}
use Rattle.order.proofs.Books.Puts.{put_holds, put_keeps, put_part}
use Rattle.order.proofs.Books.Counts.{count_same, count_put, count_zero}
use Rattle.order.proofs.Books.Tasks.{lives_kept}

-- how many of n tasks live in f
abbrev living : (ℕ → TaskRow) → ℕ → ℕ → ℕ
living task n f = count (λ u. lives_in (task u) f) n

-- each of the b finishes counts those of the n tasks that live there
abbrev pub Counted : (ℕ → FinishRow) → (ℕ → TaskRow) → ℕ → ℕ → Type 0
Counted fin task b n = (f : ℕ) → f < b → (fin f).alive ≡ count (λ u. lives_in (task u) f) n

module _ (fin : ℕ → FinishRow) (task : ℕ → TaskRow) (b n : ℕ) (c : Counted fin task b n) where
  -- a task's row is written, and it lives where it did
  pub row_counted : (t : ℕ) (k : TaskRow) → (task t).running ≡ true → k.running ≡ true → k.home ≡ (task t).home → Counted fin (put task t k) b n
  row_counted t k r s same f h = c f h ∙ sym (count_same (λ u. lives_in (put task t k u) f) (λ u. lives_in (task u) f) n (λ u i. lives_kept task t k r s same f u))

  -- a finish's row is written, and its count is what it was
  pub finish_counted : (i : ℕ) (v : FinishRow) → v.alive ≡ (fin i).alive → Counted (put fin i v) task b n
  finish_counted i v e f h = put_keeps (λ (z : FinishRow). z.alive) fin i v e f ∙ c f h

  -- a new finish, in which no task lives
  pub next_counted : (v : FinishRow) → v.alive ≡ 0 → ((u : ℕ) → u < n → (task u).home < b) → Counted (put fin b v) task (b + 1) n
  next_counted v e d f = put_holds (λ g z. g < b + 1 → z.alive ≡ living task n g) fin b v (λ h. e ∙ sym (count_zero (λ u. lives_in (task u) b) n none)) f (λ n h. c f (omega (arith, n, h)))
    where
      none : (u : ℕ) → u < n → lives_in (task u) b ≡ false
      none u h = let a = d u h in grind (arith, nat_tests, a)

  living_next : (k : TaskRow) (f : ℕ) → living (put task n k) (n + 1) f ≡ cond (lives_in k f) (suc (living task n f)) (living task n f)
  living_next k f =
      let p : ℕ → Bool = λ u. lives_in (put task n k u) f in
      let e : count p n ≡ living task n f = count_same p (λ u. lives_in (task u) f) n (λ u h. ap (λ z. lives_in z f) (put_off task n k u (λ e. omega (arith, e, h)))) in
      ap (count p) (add-one n) ∙ ap (λ x. cond (lives_in x f) (suc (count p n)) (count p n)) (put_at task n k n refl) ∙ ap (λ x. cond (lives_in k f) (suc x) x) e

  -- a new task, counted where it lives
  pub spawn_counted : (k : TaskRow) → k.running ≡ true → Counted (put fin k.home (record (fin k.home) { alive = (fin k.home).alive + 1 })) (put task n k) b (n + 1)
  spawn_counted k r f h = put_holds (λ g z. g < b → z.alive ≡ cond (lives_in k g) (suc (living task n g)) (living task n g)) fin k.home
      (record (fin k.home) { alive = (fin k.home).alive + 1 }) (λ i. let a = c k.home i in grind (arith, nat_tests, r, a))
      f (λ d i. let a = c f i in grind (arith, nat_tests, r, a, d)) h ∙ sym (living_next k f)

  -- a task that ran is not counted once it ended
  pub end_counted : (t i : ℕ) → t < n → (task t).running ≡ true → i ≡ (task t).home
      → Counted (put fin i (record (fin i) { alive = (fin i).alive - 1 })) (put task t (record (task t) { running = false })) b n
  end_counted t i h r e f = put_holds (λ g z. g < b → z.alive ≡ living (put task t k) n g) fin i (record (fin i) { alive = (fin i).alive - 1 }) here f there
    where
      k : TaskRow
      k = record (task t) { running = false }

      p : ℕ → ℕ → Bool
      p g u = lives_in (task u) g

      out : (g : ℕ) → living (put task t k) n g ≡ count (put (p g) t false) n
      out g = ap (λ q. count q n) (put_part (λ z. lives_in z g) task t k)

      here : i < b → (fin i).alive - 1 ≡ living (put task t k) n i
      here j = let a = count_put (p i) t n h (ap (λ x. x && (task t).home == i) r ∙ eq-eqb (task t).home i (sym e)) in omega (arith, a, c i j, out i)

      there : (f ≡ i → ⊥) → f < b → (fin f).alive ≡ living (put task t k) n f
      there d j = c f j ∙ sym (count_same (put (p f) t false) (p f) n (λ u l. put_keeps (λ x. x) (p f) t false
          (sym (ap (λ x. x && (task t).home == f) r ∙ ne_eqb (task t).home f (λ s. d (sym (e ∙ s))))) u)) ∙ sym (out f)
