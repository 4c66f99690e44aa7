pub mod Endpoints
pub mod Requests
pub mod Plans
