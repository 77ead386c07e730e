pub mod KeepingLoop
pub mod LoopMeasure
pub mod MoreKept
pub mod OnlyLazy
pub mod Settled
pub mod Unkept
pub mod Waiting
