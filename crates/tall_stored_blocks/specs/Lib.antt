pub mod StoredBlocks
pub mod BlocksOfFiles
