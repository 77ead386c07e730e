pub mod LawFound
pub mod LawRows
pub mod LawWays
pub mod LawTargets
pub mod LawKeys
pub mod LawTokens
mod LawInstance
pub mod Closed
mod Examples
pub mod Findings
pub mod Found
pub mod LazyPlaces
pub mod Leads
pub mod Orders
pub mod PickedPlaces
pub mod Pushed
pub mod Rows
pub mod TokenWays
