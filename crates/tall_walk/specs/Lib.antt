pub mod Events
pub mod OneFile
pub mod Walked
pub mod Placed
