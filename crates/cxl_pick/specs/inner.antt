pub mod Wanted
pub mod Gifts
