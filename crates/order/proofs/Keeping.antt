-- What either keeper owes.
pub mod Agree
pub mod Ready
pub mod Calls
