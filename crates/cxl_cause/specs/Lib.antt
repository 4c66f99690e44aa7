pub mod BlockCauses
pub mod RangeCauses
pub mod Causes
pub mod Wanted
pub mod inner
