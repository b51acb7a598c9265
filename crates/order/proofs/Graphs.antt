-- The graph keeper.
pub mod Searching
pub mod Alike
pub mod Labels
pub mod Earlier
pub mod Drawn
pub mod Kept
