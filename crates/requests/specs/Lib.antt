pub mod Reading
pub mod Bind
pub mod Submit
pub mod Query
pub mod Cancel
pub mod Replace
pub mod Plain
