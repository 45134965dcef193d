pub mod Cursor
pub mod Gives
pub mod Nests
