pub mod GatherFailures
pub mod GatheredValues
pub mod ReadingFailures
pub mod Openings
pub mod Making
pub mod Single
pub mod Reductions
