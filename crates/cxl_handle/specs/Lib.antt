pub mod Owned
pub mod Told
pub mod Facts
pub mod Replies
pub mod Asking
