pub mod Walks
pub mod Acting
pub mod Learnt
pub mod Visits
pub mod Rules
pub mod Unnamed
