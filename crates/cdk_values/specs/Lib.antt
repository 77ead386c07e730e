pub mod BadValue
pub mod Findings
