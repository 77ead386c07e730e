pub mod Putting
pub mod Alike
pub mod LocalRenders
mod Instance
