pub mod Traces
pub mod HostLists
pub mod inner
