pub mod Striplog
pub mod Key
