pub mod Paths
pub mod PrintedPaths
pub mod PathReadBack
