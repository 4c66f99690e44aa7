pub mod CarriedOut
pub mod Counted
pub mod Moments
pub mod Written
