-- What order keepers promise: their faults, what their calls answer and what is meant after them, lists of calls, and examples.
pub mod Faults
pub mod Calls
pub mod Replays
pub mod Examples
-- How a keeper holds it: where records lie, what a book holds and what calls make of it, and what holds of every book.
pub mod Rows
pub mod States
pub mod Invariants
pub mod Plans
-- The ways up from two places; the plans of the tree and of the graph; what a keeper means, how two steps stand in the tree, and the
-- tree that lists of calls grow.
pub mod Forks
pub mod Trees
pub mod Graphs
pub mod Keepers
pub mod Grown
