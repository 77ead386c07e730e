mod Examples
mod Faults
pub mod Pieces
