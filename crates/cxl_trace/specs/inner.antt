-- Definitions that only the inner calls and the proofs speak of.
pub mod Turns
pub mod Candidates
