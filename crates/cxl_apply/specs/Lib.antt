pub mod Jobs
pub mod Steps
pub mod Releases
pub mod WordsSent
