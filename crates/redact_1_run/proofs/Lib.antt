pub mod Orders
pub mod Rooms
pub mod Stages
pub mod Steps
pub mod Tasks
pub mod Course
pub mod Whole
