pub mod Stops
pub mod Tables
pub mod Topologies
pub mod Images
pub mod Hosts
