mod Lookups
mod Stacks
