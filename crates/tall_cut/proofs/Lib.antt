pub mod Blocks
pub mod Taken
pub mod Cuts
pub mod Limits
pub mod Worked
