pub mod Around
pub mod Giving
pub mod OtherLengths
