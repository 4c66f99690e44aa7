pub mod Answers
pub mod Decoders
pub mod Tree
pub mod Breaches
pub mod Windows
