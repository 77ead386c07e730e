mod FirstPlace
pub mod Cutting
mod Holes
