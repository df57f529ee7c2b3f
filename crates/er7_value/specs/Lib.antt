pub mod Escape
pub mod Starts
