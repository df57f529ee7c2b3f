pub mod Display
pub mod Print
