pub mod Plain
pub mod Rendered
