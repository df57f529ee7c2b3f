pub mod Reach
pub mod Report
pub mod Inner
