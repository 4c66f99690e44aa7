-- The commands: what each comes to, and the text that it writes.
pub mod Help
pub mod Route
pub mod Lines
pub mod LinePlaces
pub mod List
pub mod Normal
pub mod Check
pub mod Plan
pub mod RefusedStart
