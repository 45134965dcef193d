pub mod Views
pub mod Facts
pub mod Claiming
pub mod Publishing
pub mod Parting
pub mod Ends
pub mod Taking
pub mod Steps
