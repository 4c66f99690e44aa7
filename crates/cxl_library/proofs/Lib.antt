pub mod Codes
mod FormWords
pub mod Growing
pub mod Runs
pub mod Marks
pub mod Telling
mod LastLine
