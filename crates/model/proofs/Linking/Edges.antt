-- The first and the last of a cell's unordered reads in serial order, as one notion: an edge.
use Rattle.std.proofs.Common.{◌≡◌, ℕ, ◌<◌, Bool, T, ◌⊎◌, List, [], length, Some, None, Option, refl, ap, ◌∙◌, subst, arith}
use Rattle.model.specs.Lists.{mem, keep, first_in, last_in}
use Rattle.model.specs.Past.{Past}
use Rattle.model.specs.Before.{serial}
use Rattle.model.specs.Accesses.{CellKind}
use Rattle.model.specs.Cells.{unordered_reads, left_read, right_read}
use Rattle.model.specs.Orders.{Order}
use Rattle.model.specs.Reached.{Reached, OrderLaws}
use Rattle.model.proofs.Shelf.Lists.{keep_in, keep_none, first_in_none, last_in_none}
use Rattle.model.proofs.Shelf.Places.{at_lt}
use Rattle.model.proofs.Linking.Sound.{Sound}
use Rattle.model.proofs.Linking.Sorted.{first_is, first_gives, last_is, last_gives}
use Rattle.model.proofs.Linking.Serial.{Serially, serially_irr, serially_trans, serial_sorted, serial_has}
use Rattle.model.proofs.Orderings.Races.{unordered_of}

module _ {C : Type 0} (k : CellKind C) where
  -- whether a place is among the unordered reads of a cell
  abbrev pub is_unordered : Past C → C → ℕ → Bool
  is_unordered h c i = mem i (unordered_reads k h c)

  pub unordered_lt : (h : Past C) (c : C) (i : ℕ) → T (is_unordered h c i) → i < length h
  unordered_lt h c i m = let d = unordered_of k h c i m in at_lt h i d.0 d.1

  -- i is the first of the unordered reads by the relation R
  abbrev pub FirstBy : (ℕ → ℕ → Type 0) → Past C → C → ℕ → Type 0
  FirstBy R h c i = T (is_unordered h c i) × ((j : ℕ) → T (is_unordered h c j) → (i ≡ j) ⊎ R i j)

  -- what is kept is the first by R, and nothing where there is none
  pub record Edge (R : ℕ → ℕ → Type 0) (h : Past C) (c : C) (kept : Option ℕ) : Type 0 where
    pub some_of : (i : ℕ) → kept ≡ Some i → FirstBy R h c i
    pub some_in : (i : ℕ) → FirstBy R h c i → kept ≡ Some i
    pub none_of : kept ≡ None → (j : ℕ) → T (is_unordered h c j) → ⊥
    pub none_in : ((j : ℕ) → T (is_unordered h c j) → ⊥) → kept ≡ None

  -- where the unordered reads and their order stay, so does the edge
  pub edge_same : {R R' : ℕ → ℕ → Type 0} (h h' : Past C) (c : C) (o o' : Option ℕ) → Edge R h c o → Edge R' h' c o'
      → unordered_reads k h' c ≡ unordered_reads k h c
      → ((i j : ℕ) → T (is_unordered h c i) → T (is_unordered h c j) → R i j → R' i j) → o' ≡ o
  edge_same h h' c None o' old new same up = new.none_in (λ j m. old.none_of refl j (subst (λ l. T (mem j l)) same m))
  edge_same h h' c (Some a) o' old new same up =
      let f = old.some_of a refl in
      grind arith

module _ {C : Type 0} (k : CellKind C) (lim : ℕ) (laws : (limit : ℕ) (m : Order) → Reached limit m → OrderLaws m) where
  -- serial order of places
  abbrev pub Ahead : Past C → ℕ → ℕ → Type 0
  Ahead h x y = Serially k lim laws h x y

  -- and its converse
  abbrev pub Behind : Past C → ℕ → ℕ → Type 0
  Behind h x y = Serially k lim laws h y x

  -- the unordered reads in serial order
  abbrev listed : Past C → C → List ℕ
  listed h c = keep (is_unordered k h c) (serial h)

  in_serial : (h : Past C) → Sound k h → (c : C) (j : ℕ) → T (is_unordered k h c j) → T (mem j (serial h))
  in_serial h s c j m = serial_has k h s j (unordered_lt k h c j m)

  -- i is the first of these by R
  abbrev FirstListed : (ℕ → ℕ → Type 0) → Past C → C → ℕ → Type 0
  FirstListed R h c i = T (mem i (serial h)) × T (is_unordered k h c i)
      × ((j : ℕ) → T (mem j (serial h)) → T (is_unordered k h c j) → (i ≡ j) ⊎ R i j)

  -- an end of this list is an edge
  edge_at : (R : ℕ → ℕ → Type 0) (an_end : List ℕ → Option ℕ) (h : Past C) → Sound k h → (c : C)
      → ((i : ℕ) → an_end (listed h c) ≡ Some i → FirstListed R h c i)
      → ((i : ℕ) → FirstListed R h c i → an_end (listed h c) ≡ Some i)
      → (an_end (listed h c) ≡ None → (j : ℕ) → T (mem j (listed h c)) → ⊥) → an_end [] ≡ None
      → Edge k R h c (an_end (listed h c))
  edge_at R an_end h s c some_of some_in none_of empty =
      record {
        some_of = λ i q. let f = some_of i q in (f.1, λ j m. f.2 j (in_serial h s c j m) m);
        some_in = λ i f. some_in i (in_serial h s c i f.0, f.0, λ j a b. f.1 j b);
        none_of = λ q j m. none_of q j (keep_in (is_unordered k h c) (serial h) j (in_serial h s c j m) m);
        none_in = λ n. ap an_end (keep_none (is_unordered k h c) (serial h) (λ j m b. n j b)) ∙ empty;
      }

  pub left_edge : (h : Past C) → Sound k h → (c : C) → Edge k (Ahead h) h c (left_read k h c)
  left_edge h s c =
      let irr = serially_irr k lim laws h s in
      let trans = serially_trans k lim laws h s in
      let sorted = serial_sorted k lim laws h s in
      edge_at (Ahead h) first_in h s c (λ i q. first_gives (Ahead h) irr trans (is_unordered k h c) (serial h) i sorted q)
      (λ i f. first_is (Ahead h) irr trans (is_unordered k h c) (serial h) i sorted f.0 f.1 f.2) (first_in_none (listed h c)) refl

  pub right_edge : (h : Past C) → Sound k h → (c : C) → Edge k (Behind h) h c (right_read k h c)
  right_edge h s c =
      let irr = serially_irr k lim laws h s in
      let trans = serially_trans k lim laws h s in
      let sorted = serial_sorted k lim laws h s in
      edge_at (Behind h) last_in h s c (λ i q. last_gives (Ahead h) irr trans (is_unordered k h c) (serial h) i sorted q)
      (λ i f. last_is (Ahead h) irr trans (is_unordered k h c) (serial h) i sorted f.0 f.1 f.2) (last_in_none (listed h c)) refl
