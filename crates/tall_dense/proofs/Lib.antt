pub use Rattle.tall_texts.proofs.Lists
pub mod Narrowed
pub mod RowLemmas
