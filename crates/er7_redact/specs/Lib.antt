pub mod Action
pub mod Policy
pub mod Inner
