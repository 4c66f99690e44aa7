pub mod Going
pub mod Endings
pub mod Counts
pub mod inner
