pub mod Kept
pub mod Lazies
pub mod Numbers
pub mod Ready
pub mod Slots
pub mod Views
