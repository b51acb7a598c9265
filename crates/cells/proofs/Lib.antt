pub mod Meant
pub mod Lasting
pub mod Probing
pub mod Walking
pub mod Ending
pub mod Hanging
