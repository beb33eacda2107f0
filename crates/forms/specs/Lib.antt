pub mod Class
pub mod Text
pub mod Time
pub mod Field
