-- Happens-before as its rules are told is happens-before as it is computed, on every past that was taken.
pub mod Strict
pub mod Chain
pub mod Shut
pub mod Sooner
pub mod Same
