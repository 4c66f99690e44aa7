pub mod Asking
pub mod Accesses
pub mod Commits
mod Ends
mod Lines
