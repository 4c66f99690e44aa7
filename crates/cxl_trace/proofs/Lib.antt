mod Outsets
mod SameTraces
mod Candidates
mod HostLists
mod SameBytes
