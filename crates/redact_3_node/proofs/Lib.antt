pub mod Nodes
pub mod Lessons
pub mod Collapses
pub mod NodeVisits
