pub mod Books
pub mod Keeping
pub mod Climbs
pub mod Trees
pub mod Graphs
pub mod Replays
