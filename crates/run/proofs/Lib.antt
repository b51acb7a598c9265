pub mod Admitting
pub mod Leading
pub mod Replaying
pub mod Telling
pub mod Again
