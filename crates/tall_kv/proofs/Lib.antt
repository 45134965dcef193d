pub mod StoreLemmas
pub mod KeyLemmas
pub mod ByKeyLemmas
