pub mod Laws
pub mod PrintBack
pub mod Slots
pub mod Sums
pub mod Packing
pub mod Room
