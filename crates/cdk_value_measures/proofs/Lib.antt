pub mod Combining
pub mod Places
pub mod Expanded
pub mod Running
pub mod TokenMeasures
pub mod Weights
pub mod LazyNumbers
pub mod KeptMeasures
