pub mod Assembly
mod Examples
pub mod Feeds
pub mod Floatless
