pub mod Trail
pub mod RegsState
pub mod Failed
pub mod Failing
