pub mod Keys
pub mod Places
pub mod Wrongs
pub mod Values
pub mod Drafts
pub mod Groups
pub mod File
pub mod inner
