pub mod StoredBlockLaws
pub mod SampleLaws
pub mod BlockTables
pub mod StoredClasses
