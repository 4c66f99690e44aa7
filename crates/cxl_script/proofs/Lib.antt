pub mod WordLemmas
pub mod HexBytes
pub mod Grans
pub mod ReadSteps
pub mod GranCodes
pub mod StoredBytes
pub mod Ranged
pub mod NameLists
