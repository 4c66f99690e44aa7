pub mod Kinds
pub mod Tree
pub mod Faults
pub mod Frames
pub mod Keys
pub mod Laws
pub mod inner
