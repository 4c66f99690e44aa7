pub mod Spans
pub mod Partitions
pub mod Rules
pub mod Breaches
pub mod Allotting
pub mod inner
