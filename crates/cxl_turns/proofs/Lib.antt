pub mod FirstLines
pub mod Silent
pub mod Loads
pub mod Going
pub mod CarriedOut
pub mod Runs
pub mod Counting
