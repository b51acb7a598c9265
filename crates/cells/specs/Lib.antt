-- The definitions, in the order in which they are best read. `model` says how to read them, and has what a store means (`Keyed`).
pub mod Faults
pub mod Keys
pub mod Stores
pub mod Puts
pub mod Records
pub mod Slots
pub mod Probes
pub mod Walks
pub mod Meanings
pub mod Examples
