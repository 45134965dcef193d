pub mod FunctionNames
pub mod ReaderParts
pub mod Parsed
pub mod StepViews
