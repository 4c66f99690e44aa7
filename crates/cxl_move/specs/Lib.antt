pub mod Sides
pub mod Holdings
pub mod Slots
pub mod inner
pub mod Bytes
pub mod Woven
pub mod Puts
