pub mod Branch
pub mod Scopes
