pub mod Trails
pub mod Failed
