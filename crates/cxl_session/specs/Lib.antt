pub mod State
pub mod Inside
pub mod Standing
pub mod Outright
pub mod inner
