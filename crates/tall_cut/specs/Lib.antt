pub use Rattle.tall_scan.specs.Rows
pub use Rattle.tall_scan.specs.Finding
pub mod Blocks
pub mod Feed
pub mod Left
pub mod Asked
pub mod Reading
pub mod Cuts
