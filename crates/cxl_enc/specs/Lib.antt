pub mod Bits
pub mod Codes
pub mod Caps
pub mod Name
pub mod Faults
pub mod Counters
pub mod Limits
pub mod inner
