pub mod Rendered
pub mod Stored
pub mod Inner
