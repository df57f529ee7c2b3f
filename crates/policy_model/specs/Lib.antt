pub mod Policy
pub mod Builtin
