pub mod Appended
pub mod Rows
pub mod Seen
