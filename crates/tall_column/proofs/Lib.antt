pub use Rattle.tall_dense.proofs.Lists
pub mod ClassLemmas
pub mod TableLemmas
pub mod ScalarLemmas
pub mod FirstCells
pub mod CountedLemmas
