pub mod Query
pub mod Cancel
pub mod Replace
pub mod Outcome
