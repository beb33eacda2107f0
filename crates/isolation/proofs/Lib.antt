pub mod Sizes
pub mod Views
pub mod Frame
pub mod Twin
pub mod Theorem
pub mod Example
