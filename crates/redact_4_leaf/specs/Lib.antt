pub mod Walk
pub mod State
pub mod Visit
