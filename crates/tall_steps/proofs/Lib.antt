mod Writing
pub mod Progressing
mod Numbering
mod StatementSteps
