pub mod Places
pub mod Faultless
pub mod Delimiters
pub mod PrintBack
pub mod ReadBack
pub mod Messages
