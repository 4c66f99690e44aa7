-- Definitions that only the inner calls and the proofs speak of.
pub mod Seen
pub mod Answers
pub mod Ports
pub mod Fields
pub mod Sections
pub mod Steps
