pub mod Acts
pub mod Knowing
pub mod Learning
