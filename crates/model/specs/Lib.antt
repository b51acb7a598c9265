-- The definitions, in the order in which they are best read. docs/RULES.md tells them in words, in the same order, but for the
-- small words of `Lists`, the shape of the tree's proof (`Shapes`) and how things are shown (`Shown`).
--
-- The types of src/lib.rt stand below `specs.declared`; a constructor takes its fields in turn, as in `Spawn task child`.
-- `(x : A) → P` is P for all x, and `(x : A) × P` is P for some x; `×` is and, `⊎` is or, `↔` exactly when, `⊥` what never holds.
-- `T b` says that the test b is passed, and `cond b x y` is x if it is, else y. `==`, `nat_eq`, `nat_lt` and `nat_le` are tests;
-- `≡`, `<` and `≤` are statements. `x ∷ xs` is a list that begins with x, and `++` puts one list after another.
-- `abbrev` begins a definition, `data` a type by its cases, `record` one by its fields. In a definition by cases the first case that
-- fits counts. `record m { f = x }` is m with that field changed, and `.0`, `.1` are the parts of a pair.
-- A definition under `module _ (k : ..)` takes k first where another file names it.
pub mod Lists
pub mod Past
pub mod Before
pub mod Accesses
pub mod Legal
pub mod Cells
pub mod Rules
pub mod Laws
pub mod Runs
pub mod Orders
pub mod Reached
pub mod Labels
pub mod Trees
pub mod Readers
pub mod Link
pub mod Parts
pub mod Holding
pub mod Mailboxes
pub mod Examples
pub mod Shapes
pub mod Shown
