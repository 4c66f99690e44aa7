pub mod Lengths
pub mod Fielding
pub mod Steps
pub mod Turns
pub mod Attaching
pub mod Whole
pub mod OneReading
