pub mod Count
pub mod Lines
pub mod Printable
