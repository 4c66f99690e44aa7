pub mod Counts
pub mod RegionLaws
pub mod Chunks
pub mod Places
pub mod Lists
pub mod Turns
pub mod Slots
