pub mod Claims
pub mod Laws
pub mod Made
pub mod Names
pub mod Taken
