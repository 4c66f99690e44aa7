pub mod Maps
pub mod Interleave
pub mod Laws
pub use Rattle.cxl_enc.specs.Limits
