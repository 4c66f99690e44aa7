pub mod Table
pub mod Spelling
pub mod Reading
pub mod RecordTexts
pub mod inner
pub use Rattle.cxl_enc.specs.Codes
pub use Rattle.byteorder.specs.Endian
