-- Definitions that only fields and proofs speak of.
pub mod Name
