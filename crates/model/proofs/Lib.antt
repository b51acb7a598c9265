-- The proofs of the laws; docs/PROOFS.md says what they rest on. Each group's file says its idea.

-- what all share
pub mod Shelf
-- law 5
pub mod Telling
-- law 6
pub mod Trees
-- law 7
pub mod TwoFound
pub mod TwoReaders
-- pasts and orders: the reads that are kept are the right two
pub mod Linking
-- laws 1 and 2
pub mod Orderings
-- law 3
pub mod Reorderings
-- law 4, and lists of calls
pub mod Verdicts
-- law 8, and law 7 of marks
pub mod Parting
-- the laws, put together
pub mod Whole
