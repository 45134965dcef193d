pub mod Faults
pub mod Keys
pub mod Stores
pub mod ByKey
