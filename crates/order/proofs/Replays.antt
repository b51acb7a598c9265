-- Lists of calls.
pub mod Replaying
pub mod Reaching
