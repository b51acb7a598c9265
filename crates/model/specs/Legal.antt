-- Legal orders of a past, and which write an access follows in them.
use Rattle.std.specs.Prelude.{◌≡◌, ℕ, ◌<◌, Bool, false, cond, T, List, [], ◌∷◌, ◌++◌, length, Some, Option, ◌==◌}
use Rattle.model.specs.declared.Event.{Event}
use Rattle.model.specs.Lists.{keep, mem, first_in, some_or}
use Rattle.model.specs.Past.{Past, at}
use Rattle.model.specs.Before.{HappensBefore}
use Rattle.model.specs.Accesses.{CellKind, writes, accesses}

-- An order of a past is a list of its places, like the past itself the latest first.

-- i stands ahead of j
abbrev pub ahead : List ℕ → ℕ → ℕ → Bool
ahead [] i j = false
ahead (x ∷ o) i j = cond (x == j) (mem i o) (ahead o i j)

-- an arrangement of all places of the past that keeps every happens-before pair
pub record Legal {C : Type 0} (h : Past C) (o : List ℕ) : Type 0 where
  pub whole : length o ≡ length h
  pub each : (i : ℕ) → i < length h → T (mem i o)
  pub keeps : (i j : ℕ) → HappensBefore h i j → T (ahead o i j)

-- the events of a past in another order
abbrev pub arranged : {C : Type 0} → Past C → List ℕ → Past C
arranged h [] = []
arranged h (i ∷ o) = some_or (λ e. e ∷ arranged h o) (arranged h o) (at h i)

-- what stands ahead of i in an order
abbrev pub part_ahead : List ℕ → ℕ → List ℕ
part_ahead [] i = []
part_ahead (x ∷ o) i = cond (x == i) o (part_ahead o i)

-- two legal orders put a and b side by side, once each way round, and differ in nothing else
pub record Beside {C : Type 0} (h : Past C) (a b : ℕ) : Type 0 where
  pub later : List ℕ
  pub sooner : List ℕ
  pub one_way : Legal h (later ++ (b ∷ a ∷ sooner))
  pub other_way : Legal h (later ++ (a ∷ b ∷ sooner))

module _ {C : Type 0} (k : CellKind C) where
  -- the write of c that the access at i follows in an order: the last one ahead of it, if there is one
  abbrev pub follows : Past C → List ℕ → C → ℕ → Option ℕ
  follows h o c i = first_in (keep (λ j. some_or (writes k c) false (at h j)) (part_ahead o i))

  -- each access follows the same write in every legal order, or none in every one
  abbrev pub Settled : Past C → Type 0
  Settled h =
      (i : ℕ) (c : C) (e : Event C) → at h i ≡ Some e → T (accesses k c e)
      → (o p : List ℕ) → Legal h o → Legal h p → follows h o c i ≡ follows h p c i
