pub mod Template
pub mod Own
pub mod Sources
pub mod Entries
pub mod Counts
pub mod Room
pub mod Markers
pub mod Laws
