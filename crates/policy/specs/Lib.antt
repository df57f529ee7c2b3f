pub mod Line
pub mod Policy
pub mod Reading
pub mod RuleList
