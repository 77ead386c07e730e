pub mod CycleFindings
pub mod Laws
pub mod LazyOrder
pub mod MentionGraph
pub mod Picked
pub mod Told
