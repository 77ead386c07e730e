pub mod Constructs
pub mod Expanding
pub mod Keeping
pub mod Measures
pub mod Ordered
pub mod Size
