pub mod Headers
pub mod Names
pub mod Lines
pub mod Segments
pub mod Reading
pub mod Parsing
