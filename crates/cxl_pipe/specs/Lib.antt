pub mod Protocol
pub mod Talk
pub mod Pipe
pub mod Commits
pub mod Peer
