mod Counts
mod Forms
mod Groups
mod Loops
mod Settled
mod Steps
mod Walking
mod Ways
