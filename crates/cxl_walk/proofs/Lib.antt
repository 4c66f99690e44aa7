pub mod Children
pub mod Nodes
pub mod Ways
pub mod Targets
pub mod Places
pub mod Comings
pub mod Keepings
pub mod Slots
pub mod OwnBlocks
pub mod SlotRoutes
pub mod Marks
mod RegionLists
