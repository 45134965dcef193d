pub mod Clamps
pub mod Folds
pub mod Outcomes
pub mod ClampLaws
pub mod FoldLaws
pub mod SumLaws
pub mod Worked
