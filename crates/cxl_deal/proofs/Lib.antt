pub mod Ways
pub mod Chunks
pub mod Swapping
pub mod Turns
pub mod Places
pub mod Digits
pub mod StepLemmas
