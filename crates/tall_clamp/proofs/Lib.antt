pub mod BlockLemmas
pub mod SumLemmas
pub mod RunLemmas
