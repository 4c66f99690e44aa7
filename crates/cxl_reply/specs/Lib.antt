pub mod Words
pub mod Texts
pub mod Refusals
pub mod Replies
pub mod Conditions
pub mod Plans
