pub mod Graph
pub mod Loops
pub mod Marks
pub mod Walks
pub mod Queued
