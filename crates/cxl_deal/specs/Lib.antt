pub mod Weaves
pub mod WeaveInside
pub mod Swaps
