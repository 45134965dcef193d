pub use Rattle.tall_dense.specs.Columns
pub use Rattle.tall_dense.specs.Dense
pub use Rattle.tall_dense.specs.Rows
pub mod Tables
pub mod Mapped
pub mod Scalars
