pub mod ReductionLemmas
pub mod DistinctLemmas
pub mod ScanLemmas
pub mod GroupLemmas
