pub mod Effects
pub mod Rules
pub mod Good
