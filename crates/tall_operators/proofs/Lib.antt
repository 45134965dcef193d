pub mod DoubleLemmas
pub mod ClassLemmas
