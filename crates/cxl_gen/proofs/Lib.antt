pub mod Growing
pub mod Counts
pub mod Places
pub mod Trees
pub mod Numbered
pub mod RangedCommands
pub mod Order
