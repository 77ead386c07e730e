pub mod Passes
pub mod Assembly
pub mod Checks
pub mod Files
pub mod Headline
pub mod Stacks
pub mod Values
