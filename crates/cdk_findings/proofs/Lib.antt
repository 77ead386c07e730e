pub mod Firsts
pub mod NextPart
