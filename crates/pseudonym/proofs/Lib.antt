pub mod Hashes
pub mod Products
