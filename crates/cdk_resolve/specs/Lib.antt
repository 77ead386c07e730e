pub mod Conditions
pub mod KeptView
