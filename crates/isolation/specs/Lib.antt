pub mod Platform
pub mod History
pub mod Isolation
