pub mod Actions
pub mod Days
pub mod ActionReadBack
