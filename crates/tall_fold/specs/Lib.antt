pub mod Forms
pub mod PickLaws
pub mod Summaries
pub mod Carries
pub mod FirstAndLast
pub mod FoldRows
