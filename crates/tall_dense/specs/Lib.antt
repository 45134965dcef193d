pub mod Columns
pub mod Dense
pub mod Ranges
pub mod Rows
