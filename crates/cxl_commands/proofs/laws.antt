-- What a run of each command comes to that works by its words and files alone.
pub mod Route
pub mod List
pub mod Normal
pub mod Check
pub mod Plan
