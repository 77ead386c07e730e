pub mod Token
pub mod Marking
pub mod Whole
pub mod Views
pub mod TableView
pub mod Marks
pub mod Values
