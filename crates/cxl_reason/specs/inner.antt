pub mod Asked
pub mod Gifts
pub mod Ready
pub mod Sizes
