-- What is proved of a past whose events were taken, in the words of the specs.
use Rattle.std.proofs.Math.Facts.{and_yes}
use Rattle.std.proofs.lemmas.Bool.Decides.{nat_tests}
use Rattle.std.proofs.Common.{◌≡◌, ℕ, ◌<◌, not, ◌&&◌, T, eqb, ◌⊎◌, ◌↔◌, length, Some, ap, subst, T_not, arith}
use Rattle.model.specs.declared.Event.{Event}
use Rattle.model.specs.Lists.{is_empty}
use Rattle.model.specs.Past.{Past, at, own, home, innermost, innermost_of, same_finish, ended, made, spawned_tasks, lived_in}
use Rattle.model.specs.Before.{before, serial}
use Rattle.model.specs.Accesses.{CellKind, is_access}
use Rattle.model.specs.Orders.{Order}
use Rattle.model.specs.Reached.{Reached, OrderLaws}
use Rattle.model.specs.Link.{order_of, step_at, stands, Linked}
use Rattle.model.proofs.Shelf.Tests.{or_r}
use Rattle.model.proofs.Shelf.Lists.{any_of}
use Rattle.model.proofs.Linking.Sound.{Sound, spawned_is}
use Rattle.model.proofs.Linking.Finishes.{finish_number}
use Rattle.model.proofs.Linking.Reach.{keeper_reached, lives_by, no_lives, full_is}
use Rattle.model.proofs.Linking.Access.{before_by_steps, steps_by_before}
use Rattle.model.proofs.Linking.Serial.{stands_serially, serially_stands, serial_once, serial_places}
use Rattle.model.proofs.Linking.Next.{step_done_on}

-- what holds with no law of orders
module _ {C : Type 0} (k : CellKind C) (lim : ℕ) where
  -- a task lives in the finish that a close would close, for the rules and for the keeper
  pub lived_lives : (h : Past C) → Sound k h → (t : ℕ) → T (lived_in h (innermost h t))
      → (n : ℕ) × T ((order_of lim h).lives (finish_number k lim h (innermost h t)) n)
  lived_lives h s t q =
      let r = any_of (λ u. not (ended h u) && same_finish (home h u) (innermost h t)) (spawned_tasks h) q in
      let u = r.0 in
      let here = same_finish (home h u) (innermost h t) in
      let known_u = or_r (eqb u 0) (made h u) (subst T (spawned_is k h u) r.1) in
      let runs = T_not (ended h u) ((and_yes (not (ended h u)) here r.2).0) in grind (arith, lives_by k lim)

  -- and if none does for the rules, none does for the keeper
  pub not_lived : (h : Past C) → Sound k h → (t : ℕ) → (T (is_empty (own h t)) → ⊥) → (T (lived_in h (innermost h t)) → ⊥)
      → (n : ℕ) → T ((order_of lim h).lives (finish_number k lim h (innermost h t)) n) → ⊥
  not_lived h s t e n v q = let o = full_is (own h t) e in no_lives k lim h s t o.0 (ap (λ l. innermost_of t l (home h t)) o.2) n v q

module _ {C : Type 0} (k : CellKind C) (lim : ℕ) (laws : (limit : ℕ) (m : Order) → Reached limit m → OrderLaws m) where
  -- before, by steps
  before_iff : (h : Past C) → Sound k h → (i j : ℕ) (d e : Event C) → i < j → at h i ≡ Some d → at h j ≡ Some e → T (is_access d)
      → T (is_access e)
      → T (before h i j) ↔ ((step_at h i ≡ step_at h j) ⊎ T ((order_of lim h).before (step_at h i) (step_at h j)))
  before_iff h s i j d e l p q a b = (before_by_steps k lim laws h s i j d e p q a b, steps_by_before k lim laws h s i j d e l p q a b)

  -- serial order, of all events
  abbrev SerialSteps : Past C → ℕ → ℕ → Type 0
  SerialSteps h i j = T ((order_of lim h).earlier (step_at h i) (step_at h j)) ⊎ ((step_at h i ≡ step_at h j) × (i < j))

  serial_iff : (h : Past C) → Sound k h → (i j : ℕ) → i < length h → j < length h → T (stands (serial h) i j) ↔ SerialSteps h i j
  serial_iff h s i j li lj = grind (arith, nat_tests, stands_serially k lim laws, serially_stands k lim laws, step_done_on k lim)

  pub linked : (h : Past C) → Sound k h → Linked lim h
  linked h s =
      record {
        reached = keeper_reached k lim h s;
        before_is = before_iff h s;
        serial_once = serial_once k lim laws h s;
        serial_places = serial_places k h s;
        serial_is = serial_iff h s;
      }
