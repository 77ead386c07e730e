pub mod Arrays
pub mod Forms
pub mod Gives
pub mod SubView
pub mod Views
