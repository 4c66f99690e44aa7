pub mod Lines
pub mod Codes
pub mod DigitGlyphs
pub mod Room
