pub mod Reaches
pub mod Rows
