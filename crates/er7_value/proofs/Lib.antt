pub mod Decoding
pub mod Encoding
pub mod Lowering
pub mod Firsts
pub mod Eights
pub mod Hits
pub mod Starts
