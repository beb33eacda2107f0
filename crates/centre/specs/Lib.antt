pub mod Operations
pub mod Centre
pub mod Pick
