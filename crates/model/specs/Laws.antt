-- The laws: what the verdict on one recorded order says of every legal order.
use Rattle.std.specs.Prelude.{◌≡◌, ℕ, suc, ◌<◌, Bool, ◌&&◌, T, ◌↔◌, List, [], ◌∷◌, length, Some, None, Option}
use Rattle.model.specs.declared.Event.{Event}
use Rattle.model.specs.declared.RaceKind.{RaceKind}
use Rattle.model.specs.declared.RaceKind.TheVariants.{WriteRead, WriteWrite, ReadWrite}
use Rattle.model.specs.declared.Race.{Race}
use Rattle.model.specs.Lists.{below}
use Rattle.model.specs.Past.{Past, at, behind}
use Rattle.model.specs.Before.{HappensBefore, before, Told}
use Rattle.model.specs.Accesses.{CellKind, reads, writes, conflicts}
use Rattle.model.specs.Rules.{Limits, taken, judge}
use Rattle.model.specs.Legal.{Legal, arranged, Beside, Settled}

-- law 5: the test tells happens-before, which is a strict partial order; and the recorded order keeps it
pub record StrictOrder {C : Type 0} (h : Past C) : Type 0 where
  pub tested : (i j : ℕ) → HappensBefore h i j ↔ T (before h i j)
  pub irreflexive : (i : ℕ) → HappensBefore h i i → ⊥
  pub asymmetric : (i j : ℕ) → HappensBefore h i j → HappensBefore h j i → ⊥
  pub transitive : (i j k : ℕ) → HappensBefore h i j → HappensBefore h j k → HappensBefore h i k
  pub recorded : Legal h (below (length h))

module _ {C : Type 0} (k : CellKind C) (l : Limits) where
  -- every event was taken, and none made a race
  abbrev pub Clean : Past C → Type 0
  Clean [] = Unit {0}
  Clean (e ∷ h) = (judge k l h e ≡ taken None) × Clean h

  -- raced: the latest event made the race r, and all before it is clean
  abbrev pub RacedBy : Past C → Race C → Type 0
  RacedBy [] r = ⊥
  RacedBy (e ∷ h) r = (judge k l h e ≡ taken (Some r)) × Clean h

  -- what comes of a past: every event was taken; and either none made a race, or the latest one made the race that is named
  abbrev pub Outcome : Past C → Option (Race C) → Type 0
  Outcome h None = Clean h
  Outcome h (Some r) = RacedBy h r

  -- law 1: clean exactly when settled
  abbrev pub CleanSettled : Type 0
  CleanSettled = (h : Past C) (m : Option (Race C)) → Outcome h m → (m ≡ None) ↔ Settled k h

  -- a race is real and latest: all before its later access is clean, and either of the two can come first
  pub record Real (h : Past C) (r : Race C) : Type 0 where
    pub clean_before : Clean (behind h r.second)
    pub latest : suc r.second ≡ length h
    pub beside : Beside h r.first r.second

  -- law 2: so is each race that is named
  abbrev pub RacesReal : Type 0
  RacesReal = (h : Past C) (r : Race C) → Outcome h (Some r) → Real h r

  -- law 3: any legal order is as good as the recorded one: it has all the events, and is clean
  abbrev pub AnyOrder : Type 0
  AnyOrder = (h : Past C) → Clean h → (o : List ℕ) → Legal h o → (length (arranged h o) ≡ length h) × Clean (arranged h o)

  -- law 5, where events were taken: the rules of happens-before, word for word, give the same relation
  abbrev pub ToldSame : Type 0
  ToldSame = (h : Past C) (m : Option (Race C)) → Outcome h m → (i j : ℕ) → Told h i j ↔ HappensBefore h i j

module _ {C : Type 0} (k : CellKind C) where
  -- d and then e touch the cell c as the kind says
  abbrev pub of_kind : RaceKind → C → Event C → Event C → Bool
  of_kind WriteRead c d e = writes k c d && reads k c e
  of_kind WriteWrite c d e = writes k c d && writes k c e
  of_kind ReadWrite c d e = reads k c d && writes k c e

  -- the accesses at two places conflict, and the earlier one is not before the later one
  pub record Unordered (h : Past C) (i j : ℕ) : Type 0 where
    pub one : Event C
    pub other : Event C
    pub later : i < j
    pub at_one : at h i ≡ Some one
    pub at_other : at h j ≡ Some other
    pub conflict : T (conflicts k one other)
    pub free : T (before h i j) → ⊥

  -- the race that is named is the first unordered conflict
  pub record FirstConflict (h : Past C) (m : Option (Race C)) : Type 0 where
    -- where there is an unordered conflict a race is named, by its later place, and no unordered conflict ends earlier
    pub found : (i j : ℕ) → Unordered h i j
        → (r : Race C) × (m ≡ Some r) × (r.second ≡ j) × ((a b : ℕ) → b < j → Unordered h a b → ⊥)
    -- a named race is such a conflict
    pub shown : (r : Race C) → m ≡ Some r → Unordered h r.first r.second
    -- its kind and cell are those of the two accesses
    pub described : (r : Race C) → m ≡ Some r → (d e : Event C) → at h r.first ≡ Some d → at h r.second ≡ Some e
        → T (of_kind r.kind r.cell d e)

  -- law 4: the first unordered conflict is the race
  abbrev pub FirstNamed : Limits → Type 0
  FirstNamed l = (h : Past C) (m : Option (Race C)) → Outcome k l h m → FirstConflict h m
