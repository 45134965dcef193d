pub mod Statuses
pub mod Ends
pub mod Failing
pub mod Sessions
pub mod Steps
pub mod Progress
