pub mod Closed
pub mod Files
pub mod Rows
pub mod NamesOpened
