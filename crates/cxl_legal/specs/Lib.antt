pub mod Firsts
pub mod Sizes
pub mod Used
pub mod Endpoints
pub mod Windows
pub mod Bases
pub mod Stated
