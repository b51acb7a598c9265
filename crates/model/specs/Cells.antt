-- What is kept of a cell: its last write, its left read and its right read.
use Rattle.std.specs.Prelude.{ℕ, ◌+◌, Bool, cond, not, List, [], ◌∷◌, length, Some, None, Option}
use Rattle.model.specs.Lists.{any, keep, mem, first_in, last_in, some_or}
use Rattle.model.specs.Past.{Past}
use Rattle.model.specs.Before.{before, serial}
use Rattle.model.specs.Accesses.{CellKind, cell_of, reads, writes, accesses}

module _ {C : Type 0} (k : CellKind C) where
  -- whether a cell was accessed
  abbrev pub cell_held : Past C → C → Bool
  cell_held h c = any (accesses k c) h

  -- how many cells were accessed
  abbrev pub cells_held : Past C → ℕ
  cells_held [] = 0
  cells_held (e ∷ h) = some_or (λ c. cond (cell_held h c) 0 1) 0 (cell_of e) + cells_held h

  -- the last write of a cell
  abbrev pub last_write : Past C → C → Option ℕ
  last_write [] c = None
  last_write (e ∷ h) c = cond (writes k c e) (Some (length h)) (last_write h c)

  -- the reads of a cell since its last write, the latest first
  abbrev pub reads_since : Past C → C → List ℕ
  reads_since [] c = []
  reads_since (e ∷ h) c = cond (writes k c e) [] (cond (reads k c e) (length h ∷ reads_since h c) (reads_since h c))

  -- those of these reads that are before no other of them
  abbrev pub unordered_reads : Past C → C → List ℕ
  unordered_reads h c = keep (λ i. not (any (before h i) (reads_since h c))) (reads_since h c)

  -- the first of those in serial order
  abbrev pub left_read : Past C → C → Option ℕ
  left_read h c = first_in (keep (λ i. mem i (unordered_reads h c)) (serial h))

  -- the last of those in serial order
  abbrev pub right_read : Past C → C → Option ℕ
  right_read h c = last_in (keep (λ i. mem i (unordered_reads h c)) (serial h))
