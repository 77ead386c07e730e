pub mod Around
pub mod Steps
