-- Definitions that only the inner calls and the proofs speak of.
pub mod Counted
pub mod Decoding
pub mod Kept
pub mod KeptRecords
pub mod Mending
pub mod Scan
pub mod Walk
pub mod Widths
