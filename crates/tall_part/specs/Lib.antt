pub mod Operations
pub mod Parts
pub mod Results
pub mod NextCarries
pub mod Finished
pub mod PartRows
