pub mod Values
pub mod Columns
pub mod Indexes
pub mod Ends
pub mod Shapes
pub mod Named
