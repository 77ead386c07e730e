pub mod Application
pub mod Condition
pub mod Construct
pub mod Expression
pub mod Findings
pub mod Runs
pub mod Schema
pub mod Sub
