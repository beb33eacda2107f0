pub mod Computed
pub mod Requests
pub mod Examples
pub mod Stored
pub mod Rules
pub mod Receipts
pub mod Spaces
