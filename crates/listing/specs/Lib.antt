pub mod Files
pub mod Listings
pub mod Lines
