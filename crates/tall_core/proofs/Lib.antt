pub mod Lists
pub mod Keeps
pub mod Traces
pub mod Reaches
