pub mod Short
pub mod Fixed
