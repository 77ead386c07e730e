pub mod Expressions
pub mod Contexts
pub mod Answers
pub mod Scanning
