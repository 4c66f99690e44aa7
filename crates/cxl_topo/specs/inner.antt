-- Definitions that only the inner calls and the proofs speak of.
pub mod Tables
pub mod AreTables
pub mod Judging
pub mod Kept
