-- What a run comes to that works on a session, and what runs promise of memory.
pub mod Early
pub mod Script
pub mod Gen
pub mod Headline
