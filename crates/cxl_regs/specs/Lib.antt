pub mod Registers
pub mod Words
pub mod Reading
pub mod Rules
pub mod Writes
pub mod Blocks
