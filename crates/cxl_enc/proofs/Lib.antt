pub mod Ways
pub mod Lists
pub mod Numbers
pub mod Options
pub mod Tests
pub mod Tables
pub mod NameBytes
