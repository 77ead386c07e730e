mod CountLemmas
mod Examples
mod LastDot
mod ListLemmas
mod MarkingLemmas
mod TokenLemmas
pub mod Numbered
