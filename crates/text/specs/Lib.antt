pub mod Text
pub mod Characters
pub mod Number
pub mod Inner
