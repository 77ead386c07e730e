mod Listing
pub mod Parts
pub mod Made
