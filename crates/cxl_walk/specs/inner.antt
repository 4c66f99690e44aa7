-- Definitions that only the inner calls and the proofs speak of.
pub mod Calls
pub mod WaysUp
pub mod Slots
pub mod Marks
pub mod Gathering
