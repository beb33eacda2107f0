pub mod Record
pub mod Line
