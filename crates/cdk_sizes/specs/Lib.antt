pub mod Checking
pub mod SizeFindings
pub mod Views
