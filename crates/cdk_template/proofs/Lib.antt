mod Examples
pub mod CountLemmas
pub mod MemberLemmas
pub mod EntryLemmas
pub mod ValueLemmas
pub mod MarkerLemmas
pub mod FitLemmas
pub mod NumberLemmas
pub mod EntryFits
pub mod WholeTemplates
pub mod SectionLemmas
mod Instance
