-- What a run's calls come to: its past is lawful, its verdict holds in every legal order, and its race is the first.
pub mod Standings
pub mod Fed
pub mod Replied
pub mod Kinds
pub mod FirstConflict
