pub mod Places
pub mod OnDevice
pub mod Answering
pub mod Pairs
pub mod Regions
pub mod Rows
pub mod Requests
pub mod Creating
