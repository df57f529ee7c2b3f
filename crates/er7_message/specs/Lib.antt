pub mod Parsed
pub mod Inner
