pub mod Property1
pub mod Longest
pub mod Property2
pub mod Property3
pub mod Healthy
pub mod NoneLost
pub mod Spaces
