pub mod Folding
pub mod TokenJson
pub mod Missing
pub mod Views
