pub mod Checked
pub mod TreeMeaning
pub mod Law
