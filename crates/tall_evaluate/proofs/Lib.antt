pub mod Sequences
pub mod Forms
pub mod Lists
pub mod Still
