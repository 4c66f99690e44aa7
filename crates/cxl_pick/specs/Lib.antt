pub mod Picking
pub mod Picked
pub mod inner
