pub mod Bound
mod ExampleConditions
mod ExampleFiles
mod ExampleStacks
mod ExampleValues
pub mod Found
pub mod Order
pub mod Reach
mod Shown
pub mod Unseen
