-- The book that either keeper has: what is written in it, and what its tasks and finishes are from call to call.
pub mod Writes
pub mod Chains
pub mod Counts
pub mod Running
pub mod Puts
pub mod Nested
pub mod Tasks
pub mod Living
pub mod Plains
pub mod Telling
pub mod Ending
pub mod Starting
