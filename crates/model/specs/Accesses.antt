-- Reads and writes of cells, and which of them conflict. Cells may have names of any type that comes with a `CellKind`.
use Rattle.std.specs.Prelude.{◌≡◌, Bool, true, false, ◌||◌, T, Some, None, Option}
use Rattle.model.specs.declared.Event.{Event}
use Rattle.model.specs.declared.Event.TheVariants.{Read, Write}

-- what the rules ask of a cell's name: a test that equal names pass and no others, and whether the numbers in it are in range
pub record CellKind (C : Type 0) : Type 0 where
  pub same : C → C → Bool
  pub same_is : (a b : C) → T (same a b) → a ≡ b
  pub same_refl : (a : C) → T (same a a)
  pub fits : C → Bool

-- the cell that an event accesses
abbrev pub cell_of : {C : Type 0} → Event C → Option C
cell_of (Read t c) = Some c
cell_of (Write t c) = Some c
cell_of e = None

-- whether an event is a read or a write
abbrev pub is_access : {C : Type 0} → Event C → Bool
is_access (Read t c) = true
is_access (Write t c) = true
is_access e = false

module _ {C : Type 0} (k : CellKind C) where
  -- whether an event reads the cell c
  abbrev pub reads : C → Event C → Bool
  reads c (Read t d) = k.same c d
  reads c e = false

  -- whether an event writes the cell c
  abbrev pub writes : C → Event C → Bool
  writes c (Write t d) = k.same c d
  writes c e = false

  -- whether an event reads or writes the cell c
  abbrev pub accesses : C → Event C → Bool
  accesses c e = reads c e || writes c e

  -- whether two events access one cell, at least one of them by a write
  abbrev pub conflicts : Event C → Event C → Bool
  conflicts d (Read t c) = writes c d
  conflicts d (Write t c) = accesses c d
  conflicts d e = false
