pub mod Cuts
pub mod Walks
pub mod OneFileLemmas
pub mod Following
pub mod Endings
pub mod FaultLaws
