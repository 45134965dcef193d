pub mod NewNames
pub mod Cuts
pub mod Depths
pub mod Lines
pub mod Spans
pub mod Told
