pub mod Appending
pub mod Tables
