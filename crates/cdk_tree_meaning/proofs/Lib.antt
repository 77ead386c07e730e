pub mod NameTests
pub mod Trees
pub mod Whole
pub mod Entries
pub mod Built
pub mod Exports
pub mod Told
pub mod Reading
pub mod Law
mod Instance
