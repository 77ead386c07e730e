mod Examples
pub mod Empty
