pub mod Turn
pub mod Ordered
pub mod Taken
