pub mod Slices
pub mod Rooms
pub mod Answered
pub mod Reads
pub mod Behind
