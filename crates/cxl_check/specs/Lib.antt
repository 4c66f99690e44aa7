pub mod Spots
pub mod Breaches
pub mod inner
