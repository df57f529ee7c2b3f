pub mod Laws
pub mod Runs
pub mod Words
pub mod Writes
pub mod Kept
pub mod Decimals
pub mod Spelling
