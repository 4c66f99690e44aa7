-- Definitions that only the inner calls and the proofs speak of.
pub mod Uses
pub mod AtPorts
pub mod Stages
pub mod Judging
pub mod Floors
pub mod Choices
pub mod Planned
