pub mod Sources
pub mod Given
pub mod Opened
pub mod Changed
pub mod Talls
pub mod Kept
