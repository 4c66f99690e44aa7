pub mod Writes
pub mod Values
pub mod ReadBack
pub mod HexText
pub mod FirstByte
pub mod LineBreaks
pub mod Reading
pub mod HasRead
pub mod WholeFiles
mod MemoryFetches
