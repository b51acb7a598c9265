pub mod Walking
pub mod OneListing
pub mod Parts
pub mod Rows
