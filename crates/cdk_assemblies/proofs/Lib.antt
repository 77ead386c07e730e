pub mod Documents
pub mod Nesting
pub mod Readings
pub mod Steps
