pub mod Alphanumerics
mod Examples
pub mod FormLaws
pub mod Parts
