mod Examples
pub mod Tests
pub mod Within
pub mod ClaimLemmas
pub mod NameLaws
