-- Rows of numbers, and how they are shown.
use Rattle.std.specs.Prelude.{ℕ, ◌-◌, ◌*◌, ◌%◌, List, ◌++◌, codes, decimal}
use Rattle.cells.specs.Keys.{number_hash}
use Rattle.storeplay.specs.declared.row.Row.{Row}
use Rattle.storeplay.specs.declared.row.Row.TheVariants.{Rising, Falling, Any}

-- how many numbers there are
abbrev pub count_of : Row → ℕ
count_of (Rising n) = n
count_of (Falling n) = n
count_of (Any n) = n

-- the number with the index i
abbrev pub number_in : Row → ℕ → ℕ
number_in (Rising n) i = i
number_in (Falling n) i = n - 1 - i
number_in (Any n) i = number_hash i % (2 * n)

abbrev pub row_text : Row → List ℕ
row_text (Rising n) = decimal n ++ codes " numbers, rising"
row_text (Falling n) = decimal n ++ codes " numbers, falling"
row_text (Any n) = decimal n ++ codes " numbers, in any order, some of them twice"
