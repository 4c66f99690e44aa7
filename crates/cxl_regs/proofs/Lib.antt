pub mod DecoderRanges
pub mod Fields
pub mod Shape
pub mod Kept
pub mod TargetLists
pub mod Places
pub mod WordPlaces
mod Landing
