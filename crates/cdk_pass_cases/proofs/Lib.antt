pub mod CleanTrees
pub mod MarkedTrees
