pub mod Payload
pub mod Live
pub mod Pieces
pub mod inner
