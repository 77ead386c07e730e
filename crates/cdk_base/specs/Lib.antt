pub mod Codes
pub mod Faults
pub mod Json
pub mod Marker
pub mod Pointer
pub mod Pretty
