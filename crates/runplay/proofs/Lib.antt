pub mod Rows
pub mod Played
