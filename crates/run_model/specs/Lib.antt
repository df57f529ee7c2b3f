pub mod Redact
pub mod Entries
pub mod Table
pub mod Demand
pub mod Counts
pub mod Order
pub mod Longest
pub mod Empty
