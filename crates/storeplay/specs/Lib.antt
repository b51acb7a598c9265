-- The definitions, in the order in which they are best read. `cells` has what a list of puts leaves (`Puts`).
pub mod Numbers
pub mod Rows
pub mod Tallies
pub mod Plays
