-- The tree keeper.
pub mod Seats
pub mod Told
pub mod Here
pub mod Kept
pub mod Relation
pub mod Growing
