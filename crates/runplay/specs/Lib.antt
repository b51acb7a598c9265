pub mod Rooms
pub mod Logs
pub mod Tokens
