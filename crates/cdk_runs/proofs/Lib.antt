pub mod NextItem
pub mod Numerals
pub mod Opening
pub mod SubRuns
