pub mod Turns
pub mod Stage
pub mod Ran
