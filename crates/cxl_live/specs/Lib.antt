pub mod Apart
pub mod ByBase
pub mod Inside
