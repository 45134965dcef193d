pub mod Lists
pub mod TextLemmas
pub mod Windows
