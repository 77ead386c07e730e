pub mod Files
pub mod Found
pub mod Queued
pub mod Ways
