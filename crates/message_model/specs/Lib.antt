pub mod Message
pub mod Value
pub mod Chain
