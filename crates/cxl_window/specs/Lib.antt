pub mod Fields
pub mod Position
pub mod Windows
pub mod Restrictions
pub mod Judging
pub use Rattle.cxl_enc.specs.Codes
