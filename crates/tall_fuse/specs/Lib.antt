pub mod Results
pub mod Kept
