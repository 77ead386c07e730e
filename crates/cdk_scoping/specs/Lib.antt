pub mod Ids
pub mod Paths
pub mod Places
