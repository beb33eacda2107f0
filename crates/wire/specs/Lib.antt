pub mod Status
pub mod Frame
pub mod Command
pub mod Cursor
pub mod Fields
