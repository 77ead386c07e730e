pub mod Forms
pub mod Laws
pub mod Names
pub mod Steps
pub mod Visible
