pub mod Trails
pub mod Sessions
pub mod Asking
