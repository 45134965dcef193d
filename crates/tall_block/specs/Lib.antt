pub mod Shown
pub mod OfBlocks
pub mod BlockWork
pub mod NodeForms
pub mod Steps
pub mod RowSteps
pub mod ScanCells
pub mod PassBlocks
