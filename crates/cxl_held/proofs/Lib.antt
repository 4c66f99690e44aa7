pub mod Keeping
pub mod Refusing
pub mod Hosts
pub mod TrailRoom
mod Untrailed
mod StandsBehind
