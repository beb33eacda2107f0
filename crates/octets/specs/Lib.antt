pub mod Choice
pub mod Stretch
pub mod Equivalence
pub mod Lent
pub mod Number
pub mod Rows
