-- Climbing to where the ways up from two places meet.
pub mod Places
pub mod Climbing
pub mod Relating
