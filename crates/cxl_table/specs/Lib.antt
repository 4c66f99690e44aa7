pub mod Layout
pub mod Fields
pub mod Records
pub mod Judged
pub mod CedtFields
pub use Rattle.cxl_enc.specs.Codes
