pub mod Senses
pub mod Orders
pub mod Calls
