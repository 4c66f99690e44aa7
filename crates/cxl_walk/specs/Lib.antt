pub mod Routes
pub mod Hosts
pub mod Keeping
pub mod Carrying
pub mod inner
