pub mod Faults
pub mod Planned
pub mod inner
