pub mod Forms
pub mod Found
pub mod Names
pub mod Substitution
