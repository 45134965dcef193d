pub mod Failures
pub mod Values
pub mod Scopes
pub mod Frames
pub mod Faults
pub mod Bounds
pub mod Loops
pub mod Plain
