pub mod Ranges
pub mod TwosLemmas
pub mod QuotientLemmas
