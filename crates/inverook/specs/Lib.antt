pub mod Flat
pub mod Calls
