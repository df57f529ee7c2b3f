pub mod Act
pub mod Known
pub mod State
pub mod Inner
