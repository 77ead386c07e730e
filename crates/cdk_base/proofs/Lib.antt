pub mod Back
pub mod Canonical
pub mod Escaped
pub mod Laid
pub mod Parsed
pub mod ReadValues
