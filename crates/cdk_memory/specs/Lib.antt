pub mod FilesState
pub mod Kept
pub mod SinkState
pub mod Stored
