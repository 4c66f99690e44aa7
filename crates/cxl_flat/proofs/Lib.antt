pub mod Machines
pub mod Bytes
pub mod Addresses
pub mod Accesses
pub mod Keeping
pub mod Lines
pub mod Turning
