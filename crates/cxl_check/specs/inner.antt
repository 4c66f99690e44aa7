-- Definitions that only the inner calls and the proofs speak of.
pub mod Ready
pub mod Holders
pub mod Found
pub mod Landings
pub mod Children
pub mod Firsts
pub mod DecoderFacts
pub mod Facts
pub mod Known
pub mod Slots
pub mod Listing
pub mod Listed
