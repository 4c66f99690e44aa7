pub mod Errors
pub mod Zipped
pub mod Enabling
pub mod FewRegions
pub mod AutoNames
pub mod Routes
pub mod EmptyMedia
