-- Every order that a keeper's calls can reach has labels in the program structure tree, and what follows from them.
pub mod Labels
pub mod ShapeLaws
pub mod Relabel
pub mod Tasks
pub mod Grow
pub mod Added
pub mod Turns
pub mod Spawn
pub mod Open
pub mod Close
pub mod End
pub mod Start
pub mod Steps
pub mod Reached
