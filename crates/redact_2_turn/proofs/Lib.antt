pub mod Aims
pub mod Still
pub mod Funds
pub mod Turns
pub mod Idle
pub mod Visiting
