-- A past whose events were all taken moves a keeper by calls that its rules allow.
use Rattle.std.proofs.Math.Facts.{or_yes, and_yes}
use Rattle.std.proofs.lemmas.Bool.Decides.{nat_tests}
use Rattle.std.proofs.Common.{◌≡◌, ℕ, true, not, ◌&&◌, T, eqb, List, [], ◌∷◌, ◌++◌, sym, refl, ap, ◌∙◌, subst, inl, inr, arith, eqb→eq}
use lib.Dec.{eqb_refl}
use Rattle.std.proofs.lemmas.Bool.{cases_eq}
use Rattle.model.specs.declared.Event.{Event}
use Rattle.model.specs.declared.Event.TheVariants.{Spawn, End, Open, Close}
use Rattle.model.specs.Lists.{is_empty, head_or, rest}
use Rattle.model.specs.Past.{Past, Finish, actor, makes, own, opens, home, innermost, innermost_of, outer, opened_by, same_finish}
use Rattle.model.specs.Past.{ended, lived_in}
use Rattle.model.specs.Accesses.{CellKind}
use Rattle.model.specs.Rules.{steps_held}
use Rattle.model.specs.Orders.{Order, Task}
use Rattle.model.specs.Reached.{Reached}
use Rattle.model.specs.Link.{number, order_of}
use Rattle.model.specs.Reached.{start, by_spawn, by_open, by_close, by_end}
use Rattle.model.proofs.Shelf.Tests.{cond_eq, cond_ne}
use Rattle.model.proofs.Shelf.Lists.{any_in}
use Rattle.model.proofs.Linking.Sound.{Known, HasEnded, Good, Sound, known_old, makes_known, spawned_is}
use Rattle.model.proofs.Linking.Keeper.{task_of, task_of_is, number_inj, tasks_is, known_in}
use Rattle.model.proofs.Linking.Finishes
use Rattle.model.proofs.Linking.Finishes.{own_has, home_has, inner_has, home_old, finish_number_old, finish_number_inj, own_numbers}
use Rattle.model.proofs.Linking.Finishes.{numbers_with, numbers_with_old, finish_numbers_inner, unknown_own, ended_known}
use Rattle.model.proofs.Linking.Finishes.{same_finish_refl}

pub empty_is : (l : List ℕ) → T (is_empty l) → l ≡ []
empty_is [] h = refl
empty_is (x ∷ l) h = absurd h

pub full_is : (l : List ℕ) → (T (is_empty l) → ⊥) → (x : ℕ) × (m : List ℕ) × (l ≡ x ∷ m)
full_is [] h = absurd (h tt)
full_is (x ∷ l) h = (x, l, refl)

module _ {C : Type 0} (k : CellKind C) (lim : ℕ) where
  -- the order that the keeper means after a past
  abbrev keeper : Past C → Order
  keeper h = order_of lim h

  -- the keeper's number of a finish
  abbrev finish_number : Past C → Finish → ℕ
  finish_number h f = Finishes.finish_number k lim h f

  -- the keeper's list of a task's finishes
  abbrev finish_numbers : Past C → ℕ → List ℕ
  finish_numbers h t = Finishes.finish_numbers k lim h t

  same_running : {x y : Task} → x ≡ y → x.running ≡ y.running
  same_running p = ap (λ (x : Task). x.running) p

  same_finishes : {x y : Task} → x ≡ y → x.finishes ≡ y.finishes
  same_finishes p = ap (λ (x : Task). x.finishes) p

  -- the task of an event runs
  actor_runs : (h : Past C) (e : Event C) → Good k h e → (t : ℕ) → t ≡ actor e → true ≡ not (ended h t)
  actor_runs h e g t p = grind arith

  task_of_running : (h : Past C) → Sound k h → (t : ℕ) → Known k h t → (task_of k lim h t).running ≡ not (ended h t)
  task_of_running [] s t q = refl
  task_of_running (Spawn a u ∷ h) s t q = grind (arith, nat_tests, task_of_running h, same_running, ended_known, actor_runs, known_in)
  task_of_running (e ∷ h) s t q = grind (arith, nat_tests, task_of_running h)

  -- a close drops the innermost finish
  finish_numbers_rest : (h : Past C) (t : ℕ) (l m : List ℕ) → (T (is_empty l) → ⊥)
      → rest (own_numbers k lim h t l ++ m) ≡ own_numbers k lim h t (rest l) ++ m
  finish_numbers_rest h t [] m n = absurd (n tt)
  finish_numbers_rest h t (x ∷ l) m n = refl

  -- the finish that an open opens has the next number
  number_opened : (h : Past C) (a t : ℕ) → t ≡ a → finish_number (Open a ∷ h) (opened_by t (opens h t)) ≡ (keeper h).finishes
  number_opened h a t p = grind arith

  -- the numbers of the finishes that a task had stay
  numbers_kept : (h : Past C) (e : Event C) (t : ℕ) → (T (makes t e) → ⊥) → numbers_with k lim (e ∷ h) t (own h t) ≡ finish_numbers h t
  numbers_kept h e t n = numbers_with_old k lim h e t (own h t) (own_has h t) n

  -- the home of the task that is made
  home_new : (h : Past C) (a u : ℕ) (t : ℕ) → t ≡ u → home (Spawn a u ∷ h) t ≡ innermost h a
  home_new h a u t p = cond_eq t u _ _ p

  task_of_finishes : (h : Past C) → Sound k h → (t : ℕ) → Known k h t → (HasEnded k h t → ⊥)
      → (task_of k lim h t).finishes ≡ finish_numbers h t
  task_of_finishes [] s t q n = refl
  task_of_finishes (Spawn a u ∷ h) s t q n =
      let of_spawner = task_of_finishes h s.1 a s.0.is_known s.0.runs in
      elim (cases_eq t u) [
        | inl p ↦ (
            let none = unknown_own k lim h s.1 t (λ z. s.0.extra (subst (λ x. Known k h x) p z)) in
            same_finishes (cond_eq t u _ _ p)
            ∙ (ap (λ l. head_or l 0 ∷ []) of_spawner
            ∙ (ap (λ x. x ∷ []) (finish_numbers_inner k lim h a)
            ∙ (ap (λ f. finish_number h f ∷ []) (sym (home_new h a u t p))
            ∙ ap (numbers_with k lim (Spawn a u ∷ h) t) (sym none)))))
        | inr m ↦ grind (arith, nat_tests, task_of_finishes h)
      ]
  task_of_finishes (e ∷ h) s t q n = grind (arith, nat_tests, task_of_finishes h, same_finishes, numbers_kept, number_opened, finish_numbers_rest)

  -- the keeper's task, in words of the past
  pub task_running : (h : Past C) → Sound k h → (t : ℕ) → Known k h t → ((keeper h).task (number h t)).running ≡ not (ended h t)
  task_running h s t q = same_running (task_of_is k lim h s t q) ∙ task_of_running h s t q

  pub task_finishes : (h : Past C) → Sound k h → (t : ℕ) → Known k h t → (HasEnded k h t → ⊥)
      → ((keeper h).task (number h t)).finishes ≡ finish_numbers h t
  task_finishes h s t q n = same_finishes (task_of_is k lim h s t q) ∙ task_of_finishes h s t q n

  pub head_is : (h : Past C) → Sound k h → (t : ℕ) → Known k h t → (HasEnded k h t → ⊥)
      → head_or ((keeper h).task (number h t)).finishes 0 ≡ finish_number h (innermost h t)
  head_is h s t q n = ap (λ l. head_or l 0) (task_finishes h s t q n) ∙ finish_numbers_inner k lim h t

  pub runs_now : (h : Past C) → Sound k h → (t : ℕ) → Known k h t → (HasEnded k h t → ⊥) → T ((keeper h).task (number h t)).running
  runs_now h s t q n = grind (arith, nat_tests, task_running)

  actor_running : (h : Past C) (e : Event C) → Sound k (e ∷ h) → T ((keeper h).task (number h (actor e))).running
  actor_running h e s = runs_now h s.1 (actor e) s.0.is_known s.0.runs

  -- who lives in a finish: a task that is known and has not ended, by the keeper's numbers
  abbrev pub Resident : Past C → ℕ → ℕ → Type 0
  Resident h f n = (u : ℕ) × Known k h u × (HasEnded k h u → ⊥) × (number h u ≡ n) × (finish_number h (home h u) ≡ f)

  pub lives_of : (h : Past C) → Sound k h → (f n : ℕ) → T ((keeper h).lives f n) → Resident h f n
  lives_of [] s f n q = grind arith
  lives_of (Spawn a u ∷ h) s f n q =
      let inner = head_or ((keeper h).task (number h a)).finishes 0 in
      let next = (keeper h).tasks in
      elim (or_yes (eqb f inner && eqb n next) ((keeper h).lives f n) q) [
        | inl p ↦ (
          u,
          makes_known k h (Spawn a u) u (eqb_refl u),
          λ z. s.0.extra (ended_known k lim h s.1 u z),
          cond_eq u u _ _ refl ∙ (sym (tasks_is k lim h) ∙ sym (eqb→eq n next ((and_yes (eqb f inner) (eqb n next) p).1))),
          ap (finish_number h) (home_new h a u u refl)
              ∙ (sym (head_is h s.1 a s.0.is_known s.0.runs) ∙ sym (eqb→eq f inner ((and_yes (eqb f inner) (eqb n next) p).0))),
        )
        | inr p ↦ (
            let r = lives_of h s.1 f n p in
            let ne : r.0 ≡ u → ⊥ = λ z. s.0.extra (subst (λ x. Known k h x) z r.1) in (
              r.0,
              known_old k h (Spawn a u) r.0 r.1,
              r.2,
              cond_ne r.0 u _ _ ne ∙ r.3,
              ap (finish_number h) (home_old h (Spawn a u) r.0 (λ z. ne (eqb→eq r.0 u z))) ∙ r.4,
            ))
      ]
  lives_of (e ∷ h) s f n q = grind (arith, nat_tests, lives_of h, finish_number_old, home_has)

  pub lives_by : (h : Past C) → Sound k h → (u : ℕ) → Known k h u → (HasEnded k h u → ⊥)
      → T ((keeper h).lives (finish_number h (home h u)) (number h u))
  lives_by [] s u p n = tt
  lives_by (Spawn a v ∷ h) s u p n =
      let inner = head_or ((keeper h).task (number h a)).finishes 0 in
      let f = finish_number h (home (Spawn a v ∷ h) u) in
      let m = number (Spawn a v ∷ h) u in
      grind (arith, nat_tests, lives_by h, inner, home_new, head_is, tasks_is, home_old, known_in)
  lives_by (End a ∷ h) s u p n = grind (arith, nat_tests, lives_by h, number_inj k lim)
  lives_by (Open a ∷ h) s u p n = grind (arith, nat_tests, lives_by h, finish_number_old, home_has)
  lives_by (e ∷ h) s u p n = grind (arith, lives_by h)

  -- the steps
  pub steps_is : (h : Past C) → (keeper h).steps ≡ steps_held h
  steps_is [] = refl
  steps_is (Spawn a u ∷ h) = let p = steps_is h in omega arith
  steps_is (e ∷ h) = let p = steps_is h in omega arith

  -- the first task lives in the outer finish
  pub home_first : (h : Past C) → Sound k h → home h 0 ≡ outer
  home_first [] s = refl
  home_first (Spawn a u ∷ h) s = grind (arith, nat_tests, home_first h)
  home_first (e ∷ h) s = grind (arith, nat_tests, home_first h)

  open_not_outer : (t n : ℕ) → opened_by t n ≡ outer → ⊥
  open_not_outer t n e = subst (λ f. T (same_finish (opened_by t n) f)) e (same_finish_refl (opened_by t n))

  -- no task lives, for the keeper, in a finish in which none lives for the rules
  pub no_lives : (h : Past C) → Sound k h → (t n : ℕ) → innermost h t ≡ opened_by t n → (T (lived_in h (innermost h t)) → ⊥)
      → (v : ℕ) → T ((keeper h).lives (finish_number h (innermost h t)) v) → ⊥
  no_lives h s t n e nl v q =
      let r = lives_of h s (finish_number h (innermost h t)) v q in
      let u = r.0 in
      let i = finish_number_inj k lim h (home h u) (innermost h t) (home_has h u) (inner_has h t) r.4 in
      grind (arith, nat_tests, open_not_outer, home_first, spawned_is, same_finish_refl, any_in)

  -- a list with one more at its end has a first
  cons_of : (l : List ℕ) (x : ℕ) → (g : ℕ) × (gs : List ℕ) × (l ++ (x ∷ []) ≡ g ∷ gs)
  cons_of [] x = (x, [], refl)
  cons_of (y ∷ l) x = (y, l ++ (x ∷ []), refl)

  -- the keeper's own calls lead to the order after a past
  pub keeper_reached : (h : Past C) → Sound k h → Reached lim (keeper h)
  keeper_reached [] s = start
  keeper_reached (Spawn a u ∷ h) s = by_spawn (keeper h) (number h a) (keeper_reached h s.1) (actor_running h (Spawn a u) s)
  keeper_reached (End a ∷ h) s =
      by_end (keeper h) (number h a) (finish_number h (home h a)) (keeper_reached h s.1) (actor_running h (End a) s)
      (task_finishes h s.1 a s.0.is_known s.0.runs ∙ ap (numbers_with k lim h a) (empty_is (own h a) s.0.extra))
  keeper_reached (Open a ∷ h) s = by_open (keeper h) (number h a) (keeper_reached h s.1) (actor_running h (Open a) s)
  keeper_reached (Close a ∷ h) s =
      let o = full_is (own h a) s.0.extra.0 in
      let c = cons_of (own_numbers k lim h a o.1) (finish_number h (home h a)) in
      let i : innermost h a ≡ opened_by a o.0 = ap (λ l. innermost_of a l (home h a)) o.2 in
      by_close (keeper h) (number h a) (finish_number h (innermost h a)) c.0 c.1 (keeper_reached h s.1)
      (actor_running h (Close a) s)
      (task_finishes h s.1 a s.0.is_known s.0.runs
      ∙ (ap (numbers_with k lim h a) o.2
      ∙ (ap (λ l. finish_number h (opened_by a o.0) ∷ l) c.2 ∙ ap (λ f. finish_number h f ∷ (c.0 ∷ c.1)) (sym i))))
      (no_lives h s.1 a o.0 i s.0.extra.1)
  keeper_reached (e ∷ h) s = keeper_reached h s.1
