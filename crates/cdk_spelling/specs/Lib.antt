pub mod Assembled
pub mod Joins
pub mod Merging
pub mod Spelled
