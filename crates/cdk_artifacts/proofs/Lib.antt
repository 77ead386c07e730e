pub mod Acyclic
mod Apart
mod Counting
mod Onward
mod Placing
mod Search
