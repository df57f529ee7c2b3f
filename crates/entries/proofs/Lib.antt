pub mod Outcomes
pub mod Printing
pub mod Rooms
pub mod Payloads
