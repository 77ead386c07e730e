pub mod Unmarked
pub mod ReadExpressions
pub mod Counted
pub mod Walked
pub mod Roots
mod CarriedExample
pub mod CleanPlaces
pub mod CleanLiterals
pub mod CleanRuns
pub mod CleanForms
pub mod CleanExpressions
pub mod CleanConditions
pub mod CleanBodies
pub mod CleanConstructs
pub mod CleanTrees
mod CleanInstance
pub mod FormedLiterals
pub mod FormedForms
pub mod FormedExpressions
pub mod FormedConditions
pub mod FormedBodies
pub mod FormedConstructs
pub mod FormedTrees
pub mod FitFields
pub mod FitParts
pub mod FitForms
pub mod FitConditions
pub mod FitMappings
mod FormedInstance
pub mod Lists
pub mod ElementStacks
pub mod Targets
pub mod OwnMentions
pub mod ValueMentions
pub mod ConditionNames
pub mod OperandMentions
pub mod ConditionWays
pub mod GuardTargets
pub mod PlainForms
pub mod PlainExpressions
pub mod PlainConditions
pub mod PlainBodies
pub mod PlainConstructs
pub mod PlainApplications
mod MentionsInstance
pub mod SuitedOrders
mod SuitedInstance
pub mod JoinDepths
pub mod RenderedDepths
pub mod LazyNumbers
pub mod MarkedPlaces
pub mod OwnForms
pub mod Renderings
pub mod CheckedDepths
mod RenderedInstance
