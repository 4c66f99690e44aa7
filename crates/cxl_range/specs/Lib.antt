pub mod Extents
pub mod Carried
pub mod inner
