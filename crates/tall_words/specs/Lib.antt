pub mod Commands
pub mod CommandRows
pub mod Seen
pub mod Demo
pub mod Files
pub mod DemoRows
