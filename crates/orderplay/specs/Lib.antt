pub mod Dice
pub mod Lists
pub mod Tallies
pub mod Plays
pub mod Rounds
