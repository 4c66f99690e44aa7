pub mod Images
pub mod Fields
pub mod File
pub mod Text
