pub mod Hosts
pub mod Bases
pub mod Holders
