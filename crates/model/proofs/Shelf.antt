-- What the groups of proofs share: what a test says, and lists, places of a past and happens-before.
-- A lemma by the kinds of an event names some kinds, and its last clause stands for all the others.
pub mod Tests
pub mod Lists
pub mod Places
pub mod Befores
