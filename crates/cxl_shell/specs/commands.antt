-- The commands that work on a session: where it starts, what is asked, and what is told.
pub mod Script
pub mod Gen
